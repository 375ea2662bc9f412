-- What sequences and differences are decoded to.
use Rattle.std.proofs.Common.{◌≡◌, ◌∙◌, ◌*◌, arith, take, ℕ, ℤ, pos, map, length, ap, sym, cond, None, Some}
use Rattle.std.specs.List.{range_with_len}
use Rattle.std.proofs.lemmas.List.{length-map}
use Rattle.std.proofs.lemmas.List.FromFn.{take-map-range_with_len}
use Rattle.std.proofs.lemmas.Simd.{map-map}
use Rattle.vx_base.specs.declared.ptype.PType.{PType}
use Rattle.vx_base.specs.declared.dtype.Nullability.{Nullability}
use Rattle.vx_base.specs.PlainType.{integer_of}
use Rattle.vx_base.specs.PlainType as types
use Rattle.vx_base.specs.Packed.{block_count}
use Rattle.vx_base.specs.PlainValue.{int, whole_or_zero}
use Rattle.vx_base.specs.Undelta.{undelta, undelta_row}
use Rattle.vx_blocks.specs.Sequence.{sequence_row}
use Rattle.vx_model.specs.Decoded.{zeroed_by}
use Rattle.vx_model.specs.Plain.{valid_bits}
use Rattle.vx_model.specs.Rows.{rows, below, block_rows, summed_up}
use Rattle.vx_model.specs.Tree.{Tree, Validity, sequence, delta}
use Rattle.vx_model.specs.TreeType.{tree_type}
use Rattle.vx_model.specs.WellFormed.{WellFormed}
use Rattle.vx_model.proofs.DecodeLemmas.{map-valid_rows}
use Rattle.vx_model.proofs.DeltaLemmas.{validity-delta}
use Rattle.vx_model.proofs.PackedLemmas.{bits_of_below}
use Rattle.vx_model.proofs.SequenceLemmas.{any_null-sequence}
use Rattle.vx_values.specs.declared.decoded.Decoded.{Decoded}
use Rattle.vx_values.specs.declared.ints.Ints.{Ints}
use Rattle.vx_values.specs.IntsOf.{ptype_of, wholes_of}
use Rattle.vx_values.specs.ValuesOf.{ints, AreRows}
use Rattle.vx_array.specs.IsDecoded.{IsDecoded}
use Rattle.vx_array.specs.Lent.{AreIntegers}
use Rattle.vx_array.proofs.Decodings.{integer_rows, no_nulls}

pub sequence_rows : (p : PType) (n : Nullability) (first step : ℤ) (len : ℕ) (d : Decoded) → AreRows (ints p) (map int (below (sequence_row first step) len)) None d → IsDecoded (sequence p n first step len) d
sequence_rows p n first step len d r =
    let vs = rows (sequence p n first step len) in
    let none = any_null-sequence p n first step len in
    (r.0, r.1 ∙ map-map int (sequence_row first step) (range_with_len 0 len) ∙ sym (no_nulls (int (pos 0)) vs none), r.2 ∙ sym (ap (λ b. cond b (Some (valid_bits vs)) None) none))

-- ---- differences

pub delta_rows : (bases deltas : Tree) (len : ℕ) (valid : Validity) (n : Nullability) (bs ds : Ints) (bv dv : Validity) (d : Decoded) → WellFormed (delta bases deltas len valid n) → AreIntegers bases bs bv → AreIntegers deltas ds dv
    → AreRows (ints (ptype_of bs)) (map int (zeroed_by (pos 0) valid (take len (undelta (ptype_of bs) (wholes_of bs) (wholes_of ds))))) valid d → IsDecoded (delta bases deltas len valid n) d
delta_rows bases deltas len valid n bs ds bv dv d w b e r =
    let p = integer_of (tree_type bases) in
    let own = w.2 in
    let f = summed_up p (rows bases) (rows deltas) in
    let row = undelta_row p (map whole_or_zero (rows bases)) (map whole_or_zero (rows deltas)) in
    let long : length (map whole_or_zero (rows deltas)) ≡ block_rows * block_count len = length-map (rows deltas) whole_or_zero ∙ own.deltas_length in
    let values : take len (undelta (ptype_of bs) (wholes_of bs) (wholes_of ds)) ≡ map whole_or_zero (below f len) =
    (λ i. take len (undelta (b.ptype i) (b.wholes i) (e.wholes i))) ∙ take-map-range_with_len row 0 (length (map whole_or_zero (rows deltas))) len (omega (arith, long)) ∙ sym (map-map whole_or_zero f (range_with_len 0 len))
    in
    let read = ap (zeroed_by (pos 0) valid) values ∙ sym (map-valid_rows whole_or_zero valid (below f len) n (bits_of_below valid f len n own.validity)) in
    integer_rows (delta bases deltas len valid n) (ptype_of bs) n (zeroed_by (pos 0) valid (take len (undelta (ptype_of bs) (wholes_of bs) (wholes_of ds)))) valid d w
    (ap (λ q. types.primitive q n) (sym b.ptype)) read (sym (validity-delta bases deltas len valid n w)) r
