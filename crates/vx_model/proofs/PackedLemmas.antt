-- Packed integers, with and without patches, and differences from a reference: their rows, and that a constructor's tree is well
-- formed.
use Rattle.std.proofs.Common.{◌≡◌, ◌<◌, ◌≤◌, ◌+◌, ◌^◌, ◌∙◌, ℕ, zero, suc, List, [], ◌∷◌, length, map, refl, ap, subst, arith, Bool, true, false, cond, Option, Some, None}
use Rattle.std.specs.Prelude.{nat_lt, nat_le, IfSome}
use Rattle.std.specs.List.{list_all, range_with_len}
use Rattle.std.proofs.lemmas.Bool.{and_parts, and_from, eqb-true, leb-true, lt-ltb, not-true}
use Rattle.std.proofs.lemmas.List.FromFn.{length-map-range_with_len, get_or-map-range_with_len}
use Rattle.std.proofs.lemmas.Nat.{mod_below, pow_pos}
use Rattle.std.proofs.Math.Nat.{pow-le-pow_right}
use Rattle.vx_base.specs.declared.ptype.PType.{PType}
use Rattle.vx_base.specs.declared.dtype.Nullability.{Nullability}
use Rattle.vx_base.specs.declared.dtype.Nullability.TheVariants.{NonNullable}
use Rattle.vx_base.specs.declared.error.VortexError.{VortexError}
use Rattle.vx_base.specs.Answers.{unless}
use Rattle.vx_base.specs.Integers.{natural_bits}
use Rattle.vx_base.specs.Packed.{packed_row, packed_size}
use Rattle.vx_base.specs.PlainScalar.{PlainScalar, fits}
use Rattle.vx_base.specs.PlainType.{PlainType, is_integer, is_nullable, integer_of, nullability_of, stored_type}
use Rattle.vx_base.specs.PlainType as types
use Rattle.vx_base.specs.PlainValue.{PlainValue, null, int, is_null}
use Rattle.vx_base.specs.Storable.{same_path}
use Rattle.vx_base.proofs.WrapLemmas.{wrap-held}
use Rattle.vx_model.specs.Tree.{Tree, Validity, PlainPacked, PlainPatches, packed_of, bit_packed, bit_packed_with, frame_of_reference}
use Rattle.vx_model.specs.Refusals.{kept, validity_length, validity_allowed, patches_refusal, chunked_refusal, bit_packed_refusal, for_refusal, kept_packed}
use Rattle.vx_model.specs.Rows.{rows, valid_rows, is_valid_at, row_at, below, patched, is_index, packed_at, summed, moved}
use Rattle.vx_model.specs.TreeType.{tree_type}
use Rattle.vx_model.specs.WellFormed.{WellFormed, WellFormedPatches, WellFormedChunks, IsValidityOf, IsWellPacked, ascend, differences_type}
use Rattle.vx_model.proofs.EachIntLemmas.{length-each_int, row_at-each_int, all_fit-each_int}
use Rattle.vx_model.proofs.MadeLemmas.{kept_validity, valid_fit, rows_fit}
use Rattle.vx_model.proofs.RowLemmas.{length-valid_rows, row_at-valid_rows}

-- ---- rows by their number

pub length-below : (f : ℕ → PlainValue) (n : ℕ) → length (below f n) ≡ n
length-below f n = length-map-range_with_len f 0 n

pub row_at-below : (f : ℕ → PlainValue) (n i : ℕ) → i < n → row_at (below f n) i ≡ f i
row_at-below f n i h = get_or-map-range_with_len f 0 n i i null h (omega arith)

-- a test that each passes, all pass
pub below-passes : (p : PlainValue → Bool) (f : ℕ → PlainValue) (n : ℕ) → ((i : ℕ) → i < n → p (f i) ≡ true) → list_all p (below f n) ≡ true
below-passes p f n h = from_row 0 n (λ i l. h i (omega arith))
  where
    from_row : (start count : ℕ) → ((i : ℕ) → i < start + count → p (f i) ≡ true) → list_all p (map f (range_with_len start count)) ≡ true
    from_row start zero h = refl
    from_row start (suc count) h = and_from _ _ (h start (omega arith)) (from_row (start + 1) count (λ i l. h i (omega arith)))

pub bits_of_below : (valid : Validity) (f : ℕ → PlainValue) (len : ℕ) (n : Nullability) → IsValidityOf valid len n → IsValidityOf valid (length (below f len)) n
bits_of_below valid f len n h = rw length-below h

pub length-valid_below : (valid : Validity) (f : ℕ → PlainValue) (len : ℕ) (n : Nullability) → IsValidityOf valid len n → length (valid_rows valid (below f len)) ≡ len
length-valid_below valid f len n h = length-valid_rows valid (below f len) n (bits_of_below valid f len n h) ∙ length-below f len

pub row_at-valid_below : (valid : Validity) (f : ℕ → PlainValue) (len : ℕ) (n : Nullability) (i : ℕ) → IsValidityOf valid len n → i < len → row_at (valid_rows valid (below f len)) i ≡ cond (is_valid_at valid i) (f i) null
row_at-valid_below valid f len n i h l =
    row_at-valid_rows valid (below f len) n i (bits_of_below valid f len n h) ∙ ap (λ r. cond (is_valid_at valid i) r null) (row_at-below f len i l)

-- ---- the row at a place, node by node

pub length-bit_packed : (k : PlainPacked) → WellFormed (bit_packed k) → length (rows (bit_packed k)) ≡ k.len
length-bit_packed k h = length-valid_below k.valid (packed_at k) k.len k.nullability h.0.validity

pub row_at-bit_packed : (k : PlainPacked) (i : ℕ) → WellFormed (bit_packed k) → i < k.len → row_at (rows (bit_packed k)) i ≡ cond (is_valid_at k.valid i) (packed_at k i) null
row_at-bit_packed k i h l = row_at-valid_below k.valid (packed_at k) k.len k.nullability i h.0.validity l

module _ (k : PlainPacked) (len offset : ℕ) (indices values : Tree) where
  abbrev pub row_of : ℕ → PlainValue
  row_of i = patched (rows indices) (rows values) (packed_at k i) (offset + i)

  pub length-bit_packed_with : WellFormed (bit_packed_with k len offset indices values) → length (rows (bit_packed_with k len offset indices values)) ≡ k.len
  length-bit_packed_with h = length-valid_below k.valid row_of k.len k.nullability h.3.validity

  pub row_at-bit_packed_with : (i : ℕ) → WellFormed (bit_packed_with k len offset indices values) → i < k.len
      → row_at (rows (bit_packed_with k len offset indices values)) i ≡ cond (is_valid_at k.valid i) (patched (rows indices) (rows values) (packed_at k i) (offset + i)) null
  row_at-bit_packed_with i h l = row_at-valid_below k.valid row_of k.len k.nullability i h.3.validity l

pub length-frame_of_reference : (encoded : Tree) (reference : PlainScalar) → length (rows (frame_of_reference encoded reference)) ≡ length (rows encoded)
length-frame_of_reference encoded reference = length-each_int (summed reference) (rows encoded)

pub row_at-frame_of_reference : (encoded : Tree) (reference : PlainScalar) (i : ℕ) → i < length (rows encoded) → row_at (rows (frame_of_reference encoded reference)) i ≡ moved reference (row_at (rows encoded) i)
row_at-frame_of_reference encoded reference i l = row_at-each_int (summed reference) (rows encoded) i l

pub ruleset packed_reads = (length-bit_packed, row_at-bit_packed, length-bit_packed_with, row_at-bit_packed_with, length-frame_of_reference, row_at-frame_of_reference)

-- ---- each row fits

pub packed_row-lt : (bytes : List ℕ) (width row : ℕ) → packed_row bytes width row < 2 ^ width
packed_row-lt bytes width row = mod_below _ (2 ^ width) (pow_pos width)

packed_fits : (k : PlainPacked) (n : Nullability) (i : ℕ) → nat_le k.width (natural_bits k.ptype) ≡ true → fits (types.primitive k.ptype n) (packed_at k i) ≡ true
packed_fits k n i h =
    let most : 2 ^ k.width ≤ 2 ^ natural_bits k.ptype = pow-le-pow_right (omega arith) (leb-true _ _ h) in
    lt-ltb _ _ (omega (arith, packed_row-lt k.bytes k.width i))

module _ (p : PlainValue → Bool) where
  pub patched_passes : (is rs : List PlainValue) (fill : PlainValue) (n : ℕ) → list_all p rs ≡ true → p fill ≡ true → p (patched is rs fill n) ≡ true
  patched_passes [] rs fill n h e = e
  patched_passes (i ∷ is) [] fill n h e = e
  patched_passes (i ∷ is) (r ∷ rs) fill n h e = let b = and_parts _ _ h in pick (is_index i n) b.0 (patched_passes is rs fill n b.1 e)
    where
      pick : (c : Bool) → p r ≡ true → p (patched is rs fill n) ≡ true → p (cond c r (patched is rs fill n)) ≡ true
      pick true a b = a
      pick false a b = b

-- values without nulls fit the nullable type too
pub wider_fits : (p : PType) (n : Nullability) (rs : List PlainValue) → list_all (fits (types.primitive p NonNullable)) rs ≡ true → list_all (fits (types.primitive p n)) rs ≡ true
wider_fits p n [] h = refl
wider_fits p n (int z ∷ rs) h = let b = and_parts _ _ h in and_from _ _ b.0 (wider_fits p n rs b.1)
wider_fits p n (v ∷ rs) h = absurd cc

all_moved_fit : (t : PlainType) (reference : PlainScalar) (rs : List PlainValue) → is_integer t ≡ true → list_all (fits t) rs ≡ true → list_all (fits (types.primitive (integer_of reference.dtype) (nullability_of t))) (map (moved reference) rs) ≡ true
all_moved_fit (types.primitive p n) reference rs e h = all_fit-each_int (summed reference) p (integer_of reference.dtype) n (λ z l. wrap-held (integer_of reference.dtype) _) rs h
all_moved_fit t reference rs e h = absurd cc

-- ---- a constructor's tree is well formed, from its tests

pub patches_made : (p : PlainPatches) → is_integer (tree_type p.indices) ≡ true → is_nullable (tree_type p.indices) ≡ false → length (rows p.indices) ≡ length (rows p.values)
    → ascend p.offset (p.offset + p.array_len) (rows p.indices) ≡ true → WellFormed p.indices → WellFormed p.values → WellFormedChunks p.array_len p.offset p.indices p.chunks → WellFormedPatches p
patches_made p integer not_null lengths ascending i v c = (i, v, record { indices_type = integer; not_null = not_null; lengths = lengths; ascending = ascending }, c)

module _ (k : PlainPacked) (held : list_all (λ byte. nat_lt byte 256) k.bytes ≡ true) (sized : length k.bytes ≡ packed_size k.width k.len) (narrow : nat_le k.width (natural_bits k.ptype) ≡ true)
    (bits : validity_length k.valid k.len ≡ true) (allowed : validity_allowed k.valid k.nullability ≡ true) where
  is_packed : IsWellPacked (kept_packed k)
  is_packed = record { held = held; sized = sized; narrow = narrow; validity = kept_validity k.valid k.len k.nullability bits allowed }

  pub packed_made : WellFormed (bit_packed (kept_packed k))
  packed_made =
      (is_packed, valid_fit (kept k.valid) (types.primitive k.ptype k.nullability) k.len (below (packed_at k) k.len) is_packed.validity (below-passes (fits (types.primitive k.ptype k.nullability)) (packed_at k) k.len (λ i l. packed_fits k k.nullability i narrow)))

  pub packed_with_made : (p : PlainPatches) → p.array_len ≡ k.len → tree_type p.values ≡ types.primitive k.ptype NonNullable → WellFormedPatches p → WellFormed (packed_of (kept_packed k) (Some p))
  packed_with_made p lengths values_type w =
      let those : list_all (fits (types.primitive k.ptype k.nullability)) (rows p.values) ≡ true = wider_fits k.ptype k.nullability (rows p.values) (subst (λ t. list_all (fits t) (rows p.values) ≡ true) values_type (rows_fit p.values w.1)) in
      let each : list_all (fits (types.primitive k.ptype k.nullability)) (below (row_of k p.array_len p.offset p.indices p.values) k.len) ≡ true =
      below-passes (fits (types.primitive k.ptype k.nullability)) (row_of k p.array_len p.offset p.indices p.values) k.len
      (λ i l. patched_passes (fits (types.primitive k.ptype k.nullability)) (rows p.indices) (rows p.values) (packed_at k i) (p.offset + i) those (packed_fits k k.nullability i narrow)) in (
        w.0,
        w.1,
        w.2,
        is_packed,
        record { lengths = lengths; values_type = values_type },
        valid_fit (kept k.valid) (types.primitive k.ptype k.nullability) k.len (below (row_of k p.array_len p.offset p.indices p.values) k.len) is_packed.validity each,
      )

pub for_made : (encoded : Tree) (reference : PlainScalar) → is_integer reference.dtype ≡ true → is_null reference.value ≡ false → fits reference.dtype reference.value ≡ true
    → tree_type encoded ≡ differences_type reference.dtype (tree_type encoded) → WellFormed encoded → WellFormed (frame_of_reference encoded reference)
for_made encoded reference integer not_null fitting encoded_type w =
    (w, record { reference_type = integer; not_null = not_null; fitting = fitting; encoded_type = encoded_type }, all_moved_fit (tree_type encoded) reference (rows encoded) (ap is_integer encoded_type) (rows_fit encoded w))

-- ---- from no refusal

pub passed : (b : Bool) (e : VortexError) (o : Option VortexError) → unless b e o ≡ None → (b ≡ true) × (o ≡ None)
passed true e o h = (refl, h)
passed false e o h = absurd cc

pub patches_accepted : (p : PlainPatches) → patches_refusal p ≡ None → WellFormed p.indices → WellFormed p.values → WellFormedChunks p.array_len p.offset p.indices p.chunks → WellFormedPatches p
patches_accepted p h i v chunked =
    let a = passed _ _ _ h in
    let b = passed _ _ _ a.1 in
    let c = passed _ _ _ b.1 in
    let t = and_parts _ _ a.0 in
    patches_made p t.0 (not-true _ t.1) (eqb-true _ _ b.0) c.0 i v chunked

pub chunked_accepted : (p : PlainPatches) (chunks : Tree) → chunked_refusal p chunks ≡ None → WellFormed p.indices → WellFormed p.values → WellFormed chunks → WellFormedPatches (record p { chunks = Some chunks })
chunked_accepted p chunks h i v w =
    let a = passed _ _ _ h in
    let b = passed _ _ _ a.1 in
    let c = passed _ _ _ b.1 in
    let d = passed _ _ _ c.1 in
    let both = and_parts _ _ a.0 in
    let t = and_parts _ _ both.0 in
    let lengths = and_parts _ _ b.0 in
    patches_made (record p { chunks = Some chunks }) t.0 (not-true _ t.1) (eqb-true _ _ lengths.0) c.0 i v (w, record { chunks_type = both.1; lengths = eqb-true _ _ lengths.1; counted = d.0 })

pub packed_accepted : (k : PlainPacked) (o : Option PlainPatches) → bit_packed_refusal k o ≡ None → list_all (λ byte. nat_lt byte 256) k.bytes ≡ true → IfSome o WellFormedPatches → WellFormed (packed_of (kept_packed k) o)
packed_accepted k None h held w =
    let b = passed _ _ _ h in
    let c = passed _ _ _ b.1 in
    let d = passed _ _ _ c.1 in
    let l = and_parts _ _ b.0 in
    let m = and_parts _ _ l.1 in
    packed_made k held (eqb-true _ _ l.0) c.0 m.0 d.0
packed_accepted k (Some p) h held w =
    let a = passed _ _ _ h in
    let b = passed _ _ _ a.1 in
    let c = passed _ _ _ b.1 in
    let d = passed _ _ _ c.1 in
    let l = and_parts _ _ b.0 in
    let m = and_parts _ _ l.1 in
    packed_with_made k held (eqb-true _ _ l.0) c.0 m.0 d.0 p (eqb-true _ _ m.1) (same_path stored_type _ _ a.0) w

pub for_accepted : (encoded : Tree) (reference : PlainScalar) → for_refusal encoded reference ≡ None → fits reference.dtype reference.value ≡ true → WellFormed encoded → WellFormed (frame_of_reference encoded reference)
for_accepted encoded reference h fitting w =
    let a = passed _ _ _ h in
    let t = and_parts _ _ a.0 in
    let u = and_parts _ _ t.1 in
    for_made encoded reference t.0 (not-true _ u.0) fitting (same_path stored_type _ _ u.1) w
