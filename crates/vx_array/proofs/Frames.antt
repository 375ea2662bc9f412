-- Frames of reference by blocks: what their constructor has to show, and what they are decoded to.
use Rattle.std.proofs.Common.{◌≡◌, ◌∙◌, ◌<◌, ◌/◌, ◌^◌, ℕ, pos, [], ◌∷◌, length, map, true, Some, None, refl, sym, ap, subst}
use Rattle.std.specs.Prelude.{◌+ℤ◌}
use Rattle.std.specs.List.{range_with_len}
use Rattle.std.proofs.lemmas.Bool.{and_parts, and_from, lt-ltb}
use Rattle.std.proofs.lemmas.List.{length-map}
use Rattle.std.proofs.lemmas.Nat.{pow_pos}
use Rattle.vx_base.specs.declared.dtype.Nullability.{Nullability}
use Rattle.vx_base.specs.declared.ptype.PType.{PType}
use Rattle.vx_base.specs.declared.ptype.PType.TheVariants.{U8, U16, U32, U64, I8, I16, I32, I64}
use Rattle.vx_base.specs.Integers.{lies_in, natural_bits, unsigned_of}
use Rattle.vx_base.specs.PlainScalar.{fits}
use Rattle.vx_base.specs.PlainType.{PlainType, is_integer, integer_of, nullability_of}
use Rattle.vx_base.specs.PlainType as types
use Rattle.vx_base.specs.PlainValue.{PlainValue, null, int, whole_or_zero}
use Rattle.vx_base.specs.Wrapping.{wrap}
use Rattle.vx_model.specs.Decoded.{zeroed_by}
use Rattle.vx_model.specs.Plain.{validity}
use Rattle.vx_model.specs.Refusals.{for_v2_refusal}
use Rattle.vx_model.specs.Rows.{rows, row_at, block_rows}
use Rattle.vx_model.specs.Tree.{Tree, Validity, frame_of_reference_v2}
use Rattle.vx_model.specs.TreeType.{tree_type}
use Rattle.vx_model.specs.WellFormed.{WellFormed}
use Rattle.vx_model.proofs.CellLemmas.{IsWord}
use Rattle.vx_model.proofs.FrameOfReferenceLemmas.{row_fits, unsigned_wholes-word}
use Rattle.vx_model.proofs.FrameOfReferenceV2Lemmas.{for_v2_accepted, length-frame_of_reference_v2, validity-frame_of_reference_v2, wholes-frame_of_reference_v2}
use Rattle.vx_values.specs.declared.decoded.Decoded.{Decoded}
use Rattle.vx_values.specs.declared.ints.Ints.{Ints}
use Rattle.vx_values.specs.InBlocks.{moved_by_block}
use Rattle.vx_values.specs.IntsOf.{ptype_of, wholes_of}
use Rattle.vx_values.specs.ValuesOf.{ints, AreRows}
use Rattle.vx_array.specs.IsArray.{IsArray}
use Rattle.vx_array.specs.IsDecoded.{IsDecoded}
use Rattle.vx_array.specs.Lent.{AreIntegers}
use Rattle.vx_array.proofs.Decodings.{integer_rows}
use Rattle.vx_array.proofs.WholeRows.{whole-row}

pub frames_array : (encoded references : Tree) (own : PlainType) (len : ℕ) → for_v2_refusal encoded references ≡ None → WellFormed encoded → WellFormed references
    → own ≡ types.primitive (integer_of (tree_type references)) (nullability_of (tree_type encoded)) → len ≡ length (rows encoded) → IsArray (frame_of_reference_v2 encoded references) (Some own) len
frames_array encoded references own len accepted w r own_is len_is =
    record { well_formed = for_v2_accepted encoded references accepted w r; own_type_is = own_is; len_is = len_is ∙ sym (length-frame_of_reference_v2 encoded references) }

pub frames_rows : (encoded references : Tree) (xs rs : Ints) (xv rv : Validity) (d : Decoded) → WellFormed (frame_of_reference_v2 encoded references) → AreIntegers encoded xs xv → AreIntegers references rs rv
    → AreRows (ints (ptype_of rs)) (map int (zeroed_by (pos 0) xv (moved_by_block (ptype_of rs) (wholes_of rs) (wholes_of xs)))) xv d → IsDecoded (frame_of_reference_v2 encoded references) d
frames_rows encoded references xs rs xv rv d w a b r =
    let p = integer_of (tree_type references) in
    let vs = rows encoded in
    let qs = rows references in
    let long = length-map vs whole_or_zero in
    let wholes : zeroed_by (pos 0) xv (moved_by_block (ptype_of rs) (wholes_of rs) (wholes_of xs)) ≡ map whole_or_zero (rows (frame_of_reference_v2 encoded references)) =
    (λ i. zeroed_by (pos 0) (a.bits i) (moved_by_block (b.ptype i) (b.wholes i) (a.wholes i)))
    ∙ (λ i. zeroed_by (pos 0) (validity vs) (map (λ k. wrap p (whole-row qs (k / block_rows) i +ℤ whole-row vs k i)) (range_with_len 0 (long i))))
    ∙ sym (wholes-frame_of_reference_v2 encoded references)
    in
    integer_rows (frame_of_reference_v2 encoded references) (ptype_of rs) (nullability_of (tree_type encoded)) _ xv d w (ap (λ q. types.primitive q (nullability_of (tree_type encoded))) (sym b.ptype)) wholes
    (a.bits ∙ sym (validity-frame_of_reference_v2 encoded references)) r

-- ---- a row

twice : (q : PType) → unsigned_of (unsigned_of q) ≡ unsigned_of q
twice U8 = refl
twice U16 = refl
twice U32 = refl
twice U64 = refl
twice I8 = refl
twice I16 = refl
twice I32 = refl
twice I64 = refl

unsigned_word : (q : PType) (n : Nullability) (v : PlainValue) → fits (types.primitive (unsigned_of q) n) v ≡ true → IsWord v
unsigned_word q n null h = refl
unsigned_word q n (int z) h = (and_parts (lies_in U64 z) true (unsigned_wholes-word (unsigned_of q) (z ∷ []) (twice q) (and_from (lies_in (unsigned_of q) z) true h refl))).0
unsigned_word q n v h = absurd cc

-- a difference is null, or a word
pub frame-word : (encoded references : Tree) (i : ℕ) → WellFormed (frame_of_reference_v2 encoded references) → i < length (rows encoded) → IsWord (row_at (rows encoded) i)
frame-word encoded references i w l =
    unsigned_word (integer_of (tree_type references)) (nullability_of (tree_type encoded)) (row_at (rows encoded) i) (subst (λ t. fits t (row_at (rows encoded) i) ≡ true) w.2.encoded_type (row_fits encoded i w.0 l))

-- a row of integers lies in their type, 0 for null
held : (t : PlainType) (v : PlainValue) → is_integer t ≡ true → fits t v ≡ true → lies_in (integer_of t) (whole_or_zero v) ≡ true
held (types.primitive p n) null e h = lt-ltb 0 (2 ^ natural_bits p) (pow_pos (natural_bits p))
held (types.primitive p n) (int z) e h = h
held (types.primitive p n) v e h = absurd cc
held t v e h = absurd cc

pub reference-held : (references : Tree) (block : ℕ) → WellFormed references → is_integer (tree_type references) ≡ true → block < length (rows references) → lies_in (integer_of (tree_type references)) (whole_or_zero (row_at (rows references) block)) ≡ true
reference-held references block w i l = held (tree_type references) (row_at (rows references) block) i (row_fits references block w l)
