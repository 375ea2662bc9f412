-- The decoding of packed integers and of differences from a reference: integers with 0 beneath nulls, and validity.
use Rattle.std.proofs.Common.{◌≡◌, ◌+◌, ◌∙◌, ℕ, zero, suc, pos, List, [], ◌∷◌, map, length, refl, ap, subst, true, false}
use Rattle.std.specs.Prelude.{is_some}
use Rattle.std.specs.List.{list_all, list_any, range_with_len}
use Rattle.std.proofs.lemmas.Bool.{cond_both, or_parts, or_from}
use Rattle.std.proofs.lemmas.Simd.{map-map}
use Rattle.vx_base.specs.PlainScalar.{PlainScalar, fits}
use Rattle.vx_base.specs.PlainValue.{PlainValue, null, is_null, whole_or_zero}
use Rattle.vx_model.specs.Tree.{Tree, PlainPacked, bit_packed, bit_packed_with, frame_of_reference}
use Rattle.vx_model.specs.Decoded.{zeroed_by}
use Rattle.vx_model.specs.Plain.{validity}
use Rattle.vx_model.specs.Rows.{rows, below, patched, is_index, packed_at, summed}
use Rattle.vx_model.specs.WellFormed.{WellFormed, IsValidityOf}
use Rattle.vx_model.proofs.DecodeLemmas.{map-valid_rows, any_null-valid_rows, validity-valid_rows, null_allowed}
use Rattle.vx_model.proofs.EachIntLemmas.{any_null-each_int, validity-each_int, wholes-each_int}
use Rattle.vx_model.proofs.MadeLemmas.{rows_fit}
use Rattle.vx_model.proofs.PackedLemmas.{bits_of_below, row_of}

-- ---- rows by their number

pub no_null-below : (f : ℕ → PlainValue) (start len : ℕ) → ((i : ℕ) → is_null (f i) ≡ false) → list_any is_null (map f (range_with_len start len)) ≡ false
no_null-below f start zero h = refl
no_null-below f start (suc len) h = or_from _ _ (h start) (no_null-below f (start + 1) len h)

pub no_null-patched : (is vs : List PlainValue) (fill : PlainValue) (n : ℕ) → list_any is_null vs ≡ false → is_null fill ≡ false → is_null (patched is vs fill n) ≡ false
no_null-patched [] vs fill n e f = f
no_null-patched (i ∷ is) [] fill n e f = f
no_null-patched (i ∷ is) (v ∷ vs) fill n e f =
    let b = or_parts (is_null v) (list_any is_null vs) e in
    cond_both (is_index i n) v (patched is vs fill n) (λ r. is_null r ≡ false) (λ here. b.0) (λ other. no_null-patched is vs fill n b.1 f)

-- ---- packed integers

module _ (k : PlainPacked) (h : WellFormed (bit_packed k)) where
  behind : IsValidityOf k.valid (length (below (packed_at k) k.len)) k.nullability
  behind = bits_of_below k.valid (packed_at k) k.len k.nullability h.0.validity

  no_null : list_any is_null (below (packed_at k) k.len) ≡ false
  no_null = no_null-below (packed_at k) 0 k.len (λ i. refl)

  pub map-bit_packed : {A : Type 0} (f : PlainValue → A) → map f (rows (bit_packed k)) ≡ zeroed_by (f null) k.valid (below (λ i. f (packed_at k i)) k.len)
  map-bit_packed f = map-valid_rows f k.valid (below (packed_at k) k.len) k.nullability behind ∙ ap (zeroed_by (f null) k.valid) (map-map f (packed_at k) (range_with_len 0 k.len))

  pub any_null-bit_packed : list_any is_null (rows (bit_packed k)) ≡ is_some k.valid
  any_null-bit_packed = any_null-valid_rows k.valid (below (packed_at k) k.len) k.nullability behind no_null

  pub validity-bit_packed : validity (rows (bit_packed k)) ≡ k.valid
  validity-bit_packed = validity-valid_rows k.valid (below (packed_at k) k.len) k.nullability behind no_null

module _ (k : PlainPacked) (len offset : ℕ) (indices values : Tree) (h : WellFormed (bit_packed_with k len offset indices values)) where
  abbrev row : ℕ → PlainValue
  row = row_of k len offset indices values

  behind_with : IsValidityOf k.valid (length (below row k.len)) k.nullability
  behind_with = bits_of_below k.valid row k.len k.nullability h.3.validity

  no_null_value : list_any is_null (rows values) ≡ false
  no_null_value = null_allowed k.ptype (rows values) (subst (λ t. list_all (fits t) (rows values) ≡ true) h.4.values_type (rows_fit values h.1))

  no_null_with : list_any is_null (below row k.len) ≡ false
  no_null_with = no_null-below row 0 k.len (λ i. no_null-patched (rows indices) (rows values) (packed_at k i) (offset + i) no_null_value refl)

  pub map-bit_packed_with : {A : Type 0} (f : PlainValue → A) → map f (rows (bit_packed_with k len offset indices values)) ≡ zeroed_by (f null) k.valid (below (λ i. f (row i)) k.len)
  map-bit_packed_with f = map-valid_rows f k.valid (below row k.len) k.nullability behind_with ∙ ap (zeroed_by (f null) k.valid) (map-map f row (range_with_len 0 k.len))

  pub any_null-bit_packed_with : list_any is_null (rows (bit_packed_with k len offset indices values)) ≡ is_some k.valid
  any_null-bit_packed_with = any_null-valid_rows k.valid (below row k.len) k.nullability behind_with no_null_with

  pub validity-bit_packed_with : validity (rows (bit_packed_with k len offset indices values)) ≡ k.valid
  validity-bit_packed_with = validity-valid_rows k.valid (below row k.len) k.nullability behind_with no_null_with

-- ---- differences from a reference

pub wholes-frame_of_reference : (encoded : Tree) (reference : PlainScalar) → map whole_or_zero (rows (frame_of_reference encoded reference)) ≡ zeroed_by (pos 0) (validity (rows encoded)) (map (summed reference) (map whole_or_zero (rows encoded)))
wholes-frame_of_reference encoded reference = wholes-each_int (summed reference) (rows encoded)

pub any_null-frame_of_reference : (encoded : Tree) (reference : PlainScalar) → list_any is_null (rows (frame_of_reference encoded reference)) ≡ list_any is_null (rows encoded)
any_null-frame_of_reference encoded reference = any_null-each_int (summed reference) (rows encoded)

pub validity-frame_of_reference : (encoded : Tree) (reference : PlainScalar) → validity (rows (frame_of_reference encoded reference)) ≡ validity (rows encoded)
validity-frame_of_reference encoded reference = validity-each_int (summed reference) (rows encoded)
