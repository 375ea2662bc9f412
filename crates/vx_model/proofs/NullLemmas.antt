-- Which rows are null, node by node; and which roots a plain tree may have.
use Rattle.std.proofs.Common.{◌≡◌, ◌↔◌, ◌<◌, ℕ, zero, suc, ℤ, pos, List, map, refl, sym, ap, ◌∙◌, arith, Bool, true, false}
use Rattle.std.specs.Prelude.{not, is_some, replicate}
use Rattle.std.specs.List.{list_all, list_any}
use Rattle.std.proofs.lemmas.List.{length-map}
use Rattle.std.proofs.lemmas.Int.{ints}
use Rattle.vx_base.specs.declared.ptype.PType.{PType}
use Rattle.vx_base.specs.declared.dtype.Nullability.{Nullability}
use Rattle.vx_base.specs.PlainScalar.{PlainScalar}
use Rattle.vx_base.specs.PlainType.{PlainType}
use Rattle.vx_base.specs.PlainType as types
use Rattle.vx_base.specs.PlainValue.{PlainValue, int, is_null}
use Rattle.vx_model.specs.Tree.{Tree, Validity, PlainPacked, PlainBlocks, bool, primitive, var_bin_view, var_bin, timestamp, constant, masked, bit_packed, bit_packed_with, frame_of_reference, zig_zag, dict, structure, list, fixed_size_list, sparse, run_end, rle, sequence, delta, datetime_parts, bit_packed_v2, bit_packed_v2_with, frame_of_reference_v2, sparse_chunked}
use Rattle.vx_base.specs.Timestamps.{PlainTimestamp}
use Rattle.vx_model.specs.Tree as trees
use Rattle.vx_model.specs.Decoded.{zeroed_by, zero_beneath_by, is_zero}
use Rattle.vx_model.specs.Plain.{IsPlain, plain_of}
use Rattle.vx_model.specs.Rows.{rows}
use Rattle.vx_model.specs.TreeType.{tree_type}
use Rattle.vx_model.specs.WellFormed.{WellFormed}
use Rattle.vx_model.proofs.FlatLemmas.{same_beneath}
use Rattle.vx_model.proofs.DecodeLemmas.{any_masked, any_null-valid_rows, no_null-map-int, wholes-valid_rows, validity-cells}

pub any_null-primitive : (p : PType) (xs : List ℤ) (valid : Validity) (n : Nullability) → WellFormed (primitive p xs valid n) → list_any is_null (rows (primitive p xs valid n)) ≡ is_some valid
any_null-primitive p xs valid n h = any_null-valid_rows valid (map int xs) n (rw length-map h.0.validity) (no_null-map-int xs)

pub any_null-replicate : (len : ℕ) (v : PlainValue) → is_null v ≡ false → list_any is_null (replicate len v) ≡ false
any_null-replicate zero v e = refl
any_null-replicate (suc len) v e = rw e (any_null-replicate len v e)

pub any_null-nulls : (len : ℕ) (v : PlainValue) → 0 < len → is_null v ≡ true → list_any is_null (replicate len v) ≡ true
any_null-nulls zero v h e = absurd (omega arith)
any_null-nulls (suc len) v h e = rw e refl

pub any_null-masked : (child : Tree) (valid : List Bool) → WellFormed (masked child valid) → list_any is_null (rows (masked child valid)) ≡ not (list_all (λ b. b) valid)
any_null-masked child valid h = any_masked valid (rows child) h.1.lengths h.1.no_null

pub ruleset nulls = (any_null-replicate, any_null-nulls, any_null-masked)

-- ---- plain trees

is_zero-found : (x : ℤ) → is_zero x ≡ true → x ≡ pos 0
is_zero-found x e = grind (arith, ints)

plain_by : (p : PType) (xs : List ℤ) (valid : Validity) (n : Nullability) → WellFormed (primitive p xs valid n) → plain_of (types.primitive p n) (rows (primitive p xs valid n)) ≡ primitive p (zeroed_by (pos 0) valid xs) valid n
plain_by p xs valid n h = λ i. primitive p (wholes-valid_rows valid xs n h.0.validity i) (validity-cells valid xs n h.0.validity i) n

pub plain-primitive : (p : PType) (xs : List ℤ) (valid : Validity) (n : Nullability) → WellFormed (primitive p xs valid n) → (zero_beneath_by is_zero valid xs ≡ true) ↔ IsPlain (primitive p xs valid n)
plain-primitive p xs valid n h =
    let e = plain_by p xs valid n h in
    let same = same_beneath (pos 0) is_zero is_zero-found refl valid xs in (
      λ z. ap (λ ys. primitive p ys valid n) (sym (same.0 z)) ∙ sym e,
      λ q. same.1 (let s : primitive p (zeroed_by (pos 0) valid xs) valid n ≡ primitive p xs valid n = sym (q ∙ e) in cc),
    )

-- ---- no plain tree has another root

abbrev is_plain_root : Tree → Bool
is_plain_root (bool bs valid n) = true
is_plain_root (primitive p xs valid n) = true
is_plain_root (var_bin_view vs valid t) = true
is_plain_root (timestamp storage k) = true
is_plain_root (trees.nulls len) = true
is_plain_root (structure names fields len valid n) = true
is_plain_root (list elements offsets valid n) = true
is_plain_root (fixed_size_list elements size len valid n) = true
is_plain_root _ = false

plain-root : (t : PlainType) (vs : List PlainValue) → is_plain_root (plain_of t vs) ≡ true
plain-root types.null_type vs = refl
plain-root (types.boolean n) vs = refl
plain-root (types.primitive p n) vs = refl
plain-root (types.utf8 n) vs = refl
plain-root (types.binary n) vs = refl
plain-root (types.timestamp k n) vs = refl
plain-root (types.structure fs n) vs = refl
plain-root (types.list t n) vs = refl
plain-root (types.fixed_size_list t size n) vs = refl

root_of : (t : Tree) → IsPlain t → is_plain_root t ≡ true
root_of t h = ap is_plain_root h ∙ plain-root (tree_type t) (rows t)

pub plain-constant : (s : PlainScalar) (len : ℕ) → IsPlain (constant s len) → ⊥
plain-constant s len h = let e = root_of (constant s len) h in cc

pub plain-masked : (child : Tree) (valid : List Bool) → IsPlain (masked child valid) → ⊥
plain-masked child valid h = let e = root_of (masked child valid) h in cc

pub plain-bit_packed : (k : PlainPacked) → IsPlain (bit_packed k) → ⊥
plain-bit_packed k h = let e = root_of (bit_packed k) h in cc

pub plain-bit_packed_with : (k : PlainPacked) (len offset : ℕ) (indices values : Tree) → IsPlain (bit_packed_with k len offset indices values) → ⊥
plain-bit_packed_with k len offset indices values h = let e = root_of (bit_packed_with k len offset indices values) h in cc

pub plain-frame_of_reference : (encoded : Tree) (reference : PlainScalar) → IsPlain (frame_of_reference encoded reference) → ⊥
plain-frame_of_reference encoded reference h = let e = root_of (frame_of_reference encoded reference) h in cc

pub plain-zig_zag : (encoded : Tree) → IsPlain (zig_zag encoded) → ⊥
plain-zig_zag encoded h = let e = root_of (zig_zag encoded) h in cc

pub plain-dict : (codes values : Tree) → IsPlain (dict codes values) → ⊥
plain-dict codes values h = let e = root_of (dict codes values) h in cc

pub plain-var_bin : (offsets : Tree) (bs : List ℕ) (valid : Validity) (t : PlainType) → IsPlain (var_bin offsets bs valid t) → ⊥
plain-var_bin offsets bs valid t h = let e = root_of (var_bin offsets bs valid t) h in cc

pub plain-sparse : (len offset : ℕ) (indices values : Tree) (fill : PlainScalar) → IsPlain (sparse len offset indices values fill) → ⊥
plain-sparse len offset indices values fill h = let e = root_of (sparse len offset indices values fill) h in cc

pub plain-run_end : (ends values : Tree) → IsPlain (run_end ends values) → ⊥
plain-run_end ends values h = let e = root_of (run_end ends values) h in cc

pub plain-rle : (values indices offsets : Tree) (len : ℕ) → IsPlain (rle values indices offsets len) → ⊥
plain-rle values indices offsets len h = let e = root_of (rle values indices offsets len) h in cc

pub plain-sequence : (p : PType) (n : Nullability) (first step : ℤ) (len : ℕ) → IsPlain (sequence p n first step len) → ⊥
plain-sequence p n first step len h = let e = root_of (sequence p n first step len) h in cc

pub plain-delta : (bases deltas : Tree) (len : ℕ) (valid : Validity) (n : Nullability) → IsPlain (delta bases deltas len valid n) → ⊥
plain-delta bases deltas len valid n h = let e = root_of (delta bases deltas len valid n) h in cc

pub plain-datetime_parts : (k : PlainTimestamp) (n : Nullability) (days seconds subseconds : Tree) → IsPlain (datetime_parts k n days seconds subseconds) → ⊥
plain-datetime_parts k n days seconds subseconds h = let e = root_of (datetime_parts k n days seconds subseconds) h in cc

pub plain-bit_packed_v2 : (k : PlainBlocks) (offsets : Tree) → IsPlain (bit_packed_v2 k offsets) → ⊥
plain-bit_packed_v2 k offsets h = let e = root_of (bit_packed_v2 k offsets) h in cc

pub plain-bit_packed_v2_with : (k : PlainBlocks) (offsets : Tree) (len offset : ℕ) (indices values : Tree) → IsPlain (bit_packed_v2_with k offsets len offset indices values) → ⊥
plain-bit_packed_v2_with k offsets len offset indices values h = let e = root_of (bit_packed_v2_with k offsets len offset indices values) h in cc

pub plain-frame_of_reference_v2 : (encoded references : Tree) → IsPlain (frame_of_reference_v2 encoded references) → ⊥
plain-frame_of_reference_v2 encoded references h = let e = root_of (frame_of_reference_v2 encoded references) h in cc

pub plain-sparse_chunked : (len offset : ℕ) (indices values chunks : Tree) (fill : PlainScalar) → IsPlain (sparse_chunked len offset indices values chunks fill) → ⊥
plain-sparse_chunked len offset indices values chunks fill h = let e = root_of (sparse_chunked len offset indices values chunks fill) h in cc

pub ruleset plains = (plain-constant, plain-masked, plain-bit_packed, plain-bit_packed_with, plain-frame_of_reference, plain-zig_zag, plain-dict, plain-var_bin, plain-sparse, plain-run_end, plain-rle, plain-sequence, plain-delta, plain-datetime_parts, plain-bit_packed_v2, plain-bit_packed_v2_with, plain-frame_of_reference_v2, plain-sparse_chunked)
