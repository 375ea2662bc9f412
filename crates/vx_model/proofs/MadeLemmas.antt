-- A constructor's tree is well formed, from its tests.
use Rattle.std.proofs.Common.{◌≡◌, ℕ, ℤ, List, [], ◌∷◌, map, Bool, true, false, None, Some, length, refl, ap, arith, cond, zero, suc}
use Rattle.std.specs.Prelude.{◌&&◌, ◌==◌, replicate}
use Rattle.std.specs.List.{list_any, list_all}
use Rattle.std.proofs.lemmas.Bool.Decides.{nat_tests}
use Rattle.vx_base.specs.declared.ptype.PType.{PType}
use Rattle.vx_base.specs.declared.dtype.Nullability.{Nullability}
use Rattle.vx_base.specs.declared.dtype.Nullability.TheVariants.{Nullable, NonNullable}
use Rattle.vx_base.specs.Integers.{lies_in}
use Rattle.vx_base.specs.PlainScalar.{PlainScalar, fits}
use Rattle.vx_base.specs.PlainType.{PlainType, is_flat, is_nullable}
use Rattle.vx_base.specs.PlainType as types
use Rattle.vx_base.specs.PlainValue.{PlainValue, null, int, is_null}
use Rattle.vx_model.specs.Tree.{Tree, Validity, bool, primitive, var_bin_view, var_bin, timestamp, constant, masked, bit_packed, bit_packed_with, frame_of_reference, zig_zag, dict, nulls, structure, list, fixed_size_list, sparse, run_end, rle, sequence, delta, datetime_parts, bit_packed_v2, bit_packed_v2_with, frame_of_reference_v2, sparse_chunked}
use Rattle.vx_model.specs.Refusals.{validity_length, validity_allowed, kept}
use Rattle.vx_model.specs.Rows.{rows, masked_rows, valid_rows}
use Rattle.vx_model.specs.TreeType.{tree_type}
use Rattle.vx_model.specs.WellFormed.{WellFormed, IsValidityOf, RowsFit}

all_or_allowed : (b : Bool) (bits : List Bool) (len : ℕ) (n : Nullability) → list_all (λ b. b) bits ≡ b → (length bits == len) ≡ true → validity_allowed (Some bits) n ≡ true → IsValidityOf (cond b None (Some bits)) len n
all_or_allowed true bits len n e l a = tt
all_or_allowed false bits len NonNullable e l a = absurd cc
all_or_allowed false bits len Nullable e l a = (grind (arith, nat_tests), refl, e)

pub kept_validity : (valid : Validity) (len : ℕ) (n : Nullability) → validity_length valid len ≡ true → validity_allowed valid n ≡ true → IsValidityOf (kept valid) len n
kept_validity None len n l a = tt
kept_validity (Some bits) len n l a = all_or_allowed (list_all (λ b. b) bits) bits len n refl l a

pub ints_fit : (p : PType) (n : Nullability) (xs : List ℤ) → list_all (lies_in p) xs ≡ true → list_all (fits (types.primitive p n)) (map int xs) ≡ true
ints_fit p n [] h = refl
ints_fit p n (x ∷ xs) h = both (lies_in p x) h (ints_fit p n xs)
  where
    both : (b : Bool) → (b && list_all (lies_in p) xs) ≡ true → (list_all (lies_in p) xs ≡ true → list_all (fits (types.primitive p n)) (map int xs) ≡ true) → (b && list_all (fits (types.primitive p n)) (map int xs)) ≡ true
    both true e rest = rest e
    both false e rest = absurd cc

-- rows of a nullable type are of it under a mask too
pub masked_fit : (t : PlainType) (bits : List Bool) (rs : List PlainValue) → fits t null ≡ true → list_all (fits t) rs ≡ true → list_all (fits t) (masked_rows bits rs) ≡ true
masked_fit t [] rs n h = refl
masked_fit t (b ∷ bits) [] n h = refl
masked_fit t (b ∷ bits) (r ∷ rs) n h = both b (fits t r) refl h (masked_fit t bits rs n)
  where
    both : (b c : Bool) → fits t r ≡ c → (c && list_all (fits t) rs) ≡ true → (list_all (fits t) rs ≡ true → list_all (fits t) (masked_rows bits rs) ≡ true) → (fits t (cond b r null) && list_all (fits t) (masked_rows bits rs)) ≡ true
    both true true e h rest = rw e (rest h)
    both false true e h rest = rw n (rest h)
    both b false e h rest = absurd cc

pub valid_fit : (valid : Validity) (t : PlainType) (len : ℕ) (rs : List PlainValue) → IsValidityOf valid len (types.nullability_of t) → list_all (fits t) rs ≡ true → list_all (fits t) (valid_rows valid rs) ≡ true
valid_fit None t len rs v h = h
valid_fit (Some bits) t len rs v h = masked_fit t bits rs (ap types.allows_null v.1) h

pub primitive_made : (p : PType) (xs : List ℤ) (valid : Validity) (n : Nullability) → validity_length valid (length xs) ≡ true → validity_allowed valid n ≡ true → list_all (lies_in p) xs ≡ true → WellFormed (primitive p xs (kept valid) n)
primitive_made p xs valid n l a h =
    let v : IsValidityOf (kept valid) (length xs) n = kept_validity valid (length xs) n l a in
    (record { held = h; validity = v }, valid_fit (kept valid) (types.primitive p n) (length xs) (map int xs) v (ints_fit p n xs h))

pub copies_fit : (t : PlainType) (v : PlainValue) (len : ℕ) → fits t v ≡ true → list_all (fits t) (replicate len v) ≡ true
copies_fit t v zero h = refl
copies_fit t v (suc len) h = rw h (copies_fit t v len h)

pub constant_made : (s : PlainScalar) (len : ℕ) → fits s.dtype s.value ≡ true → WellFormed (constant s len)
constant_made s len h = (h, copies_fit s.dtype s.value len h)

pub rows_fit : (t : Tree) → WellFormed t → RowsFit t
rows_fit (primitive p xs valid n) h = h.1
rows_fit (bool bs valid n) h = h.1
rows_fit (var_bin_view vs valid t) h = h.1
rows_fit (var_bin offsets bs valid t) h = h.2
rows_fit (timestamp storage k) h = h.2
rows_fit (constant s len) h = h.1
rows_fit (masked child valid) h = h.2
rows_fit (bit_packed k) h = h.1
rows_fit (bit_packed_with k len offset indices values) h = h.5
rows_fit (frame_of_reference encoded reference) h = h.2
rows_fit (zig_zag encoded) h = h.2
rows_fit (dict codes values) h = h.3
rows_fit (nulls len) h = h
rows_fit (structure names fields len valid n) h = h.2
rows_fit (list elements offsets valid n) h = h.3
rows_fit (fixed_size_list elements size len valid n) h = h.2
rows_fit (sparse len offset indices values fill) h = h.4
rows_fit (run_end ends values) h = h.3
rows_fit (rle values indices offsets len) h = h.4
rows_fit (sequence p n first step len) h = h.1
rows_fit (delta bases deltas len valid n) h = h.3
rows_fit (datetime_parts k n days seconds subseconds) h = h.4
rows_fit (bit_packed_v2 k offsets) h = h.2
rows_fit (bit_packed_v2_with k offsets len offset indices values) h = h.6
rows_fit (frame_of_reference_v2 encoded references) h = h.3
rows_fit (sparse_chunked len offset indices values chunks fill) h = h.6

pub masked_made : (child : Tree) (valid : List Bool) → is_flat (tree_type child) ≡ true → is_nullable (tree_type child) ≡ true → length valid ≡ length (rows child) → list_any is_null (rows child) ≡ false → WellFormed child → WellFormed (masked child valid)
masked_made child valid flat nullable lengths no_null h =
    (h, record { flat = flat; nullable = nullable; lengths = lengths; no_null = no_null }, masked_fit (tree_type child) valid (rows child) nullable (rows_fit child h))

pub has_length : (valid : Validity) (len : ℕ) (n : Nullability) → IsValidityOf valid len n → validity_length valid len ≡ true
has_length None len n h = refl
has_length (Some bits) len n h = let e = h.0 in grind (arith, nat_tests)

-- a node's validity has a bit per row
pub validity_length-made : (p : PType) (xs : List ℤ) (valid : Validity) (n : Nullability) → WellFormed (primitive p xs valid n) → validity_length valid (length xs) ≡ true
validity_length-made p xs valid n h = has_length valid (length xs) n h.0.validity
