-- The number of rows, and the row at an index.
use Rattle.std.proofs.Common.{◌≡◌, ◌<◌, ℕ, zero, suc, ℤ, pos, List, [], ◌∷◌, map, length, refl, sym, true, ap, ◌∙◌, Some, None, arith, Bool, false, cond}
use Rattle.std.specs.Prelude.{replicate, slice_index_or}
use Rattle.std.proofs.lemmas.List.{get_or-map, length-map, length-replicate}
use Rattle.std.proofs.lemmas.Bool.{eqb-true}
use Rattle.vx_base.specs.declared.ptype.PType.{PType}
use Rattle.vx_base.specs.declared.dtype.Nullability.{Nullability}
use Rattle.vx_base.specs.PlainScalar.{PlainScalar}
use Rattle.vx_base.specs.PlainValue.{PlainValue, null, int}
use Rattle.vx_model.specs.Tree.{Tree, Validity, primitive, constant, masked}
use Rattle.vx_model.specs.Rows.{rows, masked_rows, valid_rows, is_valid_at, row_at}
use Rattle.vx_model.specs.Refusals.{validity_length}
use Rattle.vx_model.specs.WellFormed.{WellFormed, IsValidityOf}

pub length-masked_rows : (bits : List Bool) (rs : List PlainValue) → length bits ≡ length rs → length (masked_rows bits rs) ≡ length rs
length-masked_rows [] [] e = refl
length-masked_rows [] (r ∷ rs) e = absurd (omega arith)
length-masked_rows (b ∷ bits) [] e = absurd (omega arith)
length-masked_rows (b ∷ bits) (r ∷ rs) e = let h = length-masked_rows bits rs (omega arith) in omega (arith, h)

pub row_at-masked_rows : (bits : List Bool) (rs : List PlainValue) (i : ℕ) → length bits ≡ length rs → row_at (masked_rows bits rs) i ≡ cond (slice_index_or bits i false) (row_at rs i) null
row_at-masked_rows [] [] i e = refl
row_at-masked_rows [] (r ∷ rs) i e = absurd (omega arith)
row_at-masked_rows (b ∷ bits) [] i e = absurd (omega arith)
row_at-masked_rows (b ∷ bits) (r ∷ rs) zero e = refl
row_at-masked_rows (b ∷ bits) (r ∷ rs) (suc i) e = row_at-masked_rows bits rs i (omega arith)

pub row_at-replicate : (n i : ℕ) (v : PlainValue) → i < n → row_at (replicate n v) i ≡ v
row_at-replicate zero i v h = absurd (omega arith)
row_at-replicate (suc n) zero v h = refl
row_at-replicate (suc n) (suc i) v h = row_at-replicate n i v (omega arith)

pub length-valid_rows : (valid : Validity) (rs : List PlainValue) (n : Nullability) → IsValidityOf valid (length rs) n → length (valid_rows valid rs) ≡ length rs
length-valid_rows None rs n h = refl
length-valid_rows (Some bits) rs n h = length-masked_rows bits rs h.0

pub row_at-valid_rows : (valid : Validity) (rs : List PlainValue) (n : Nullability) (i : ℕ) → IsValidityOf valid (length rs) n → row_at (valid_rows valid rs) i ≡ cond (is_valid_at valid i) (row_at rs i) null
row_at-valid_rows None rs n i h = refl
row_at-valid_rows (Some bits) rs n i h = row_at-masked_rows bits rs i h.0

of_bits : (valid : Validity) (xs : List ℤ) (i : ℕ) → validity_length valid (length xs) ≡ true → row_at (valid_rows valid (map int xs)) i ≡ cond (is_valid_at valid i) (row_at (map int xs) i) null
of_bits None xs i h = refl
of_bits (Some bits) xs i h = row_at-masked_rows bits (map int xs) i (eqb-true (length bits) (length xs) h ∙ sym (length-map xs int))

-- the row of integers and their validity
pub row_at-cells : (valid : Validity) (xs : List ℤ) (i : ℕ) → validity_length valid (length xs) ≡ true → i < length xs → row_at (valid_rows valid (map int xs)) i ≡ cond (is_valid_at valid i) (int (slice_index_or xs i (pos 0))) null
row_at-cells valid xs i h l = of_bits valid xs i h ∙ ap (λ r. cond (is_valid_at valid i) r null) (get_or-map int xs i (pos 0) null l)

pub length-cells : (valid : Validity) (xs : List ℤ) → validity_length valid (length xs) ≡ true → length (valid_rows valid (map int xs)) ≡ length xs
length-cells None xs h = length-map xs int
length-cells (Some bits) xs h = length-masked_rows bits (map int xs) (eqb-true (length bits) (length xs) h ∙ sym (length-map xs int)) ∙ length-map xs int

-- ---- the row at an index, node by node

pub length-primitive : (p : PType) (xs : List ℤ) (valid : Validity) (n : Nullability) → WellFormed (primitive p xs valid n) → length (rows (primitive p xs valid n)) ≡ length xs
length-primitive p xs valid n h = length-valid_rows valid (map int xs) n (rw length-map h.0.validity) ∙ length-map xs int

pub row_at-primitive : (p : PType) (xs : List ℤ) (valid : Validity) (n : Nullability) (i : ℕ) → WellFormed (primitive p xs valid n) → i < length xs
    → row_at (rows (primitive p xs valid n)) i ≡ cond (is_valid_at valid i) (int (slice_index_or xs i (pos 0))) null
row_at-primitive p xs valid n i h l =
    row_at-valid_rows valid (map int xs) n i (rw length-map h.0.validity) ∙ ap (λ r. cond (is_valid_at valid i) r null) (get_or-map int xs i (pos 0) null l)

pub length-constant : (s : PlainScalar) (len : ℕ) → length (rows (constant s len)) ≡ len
length-constant s len = length-replicate len s.value

pub length-masked : (child : Tree) (valid : List Bool) → WellFormed (masked child valid) → length (rows (masked child valid)) ≡ length (rows child)
length-masked child valid h = length-masked_rows valid (rows child) h.1.lengths

pub row_at-masked : (child : Tree) (valid : List Bool) (i : ℕ) → WellFormed (masked child valid) → row_at (rows (masked child valid)) i ≡ cond (slice_index_or valid i false) (row_at (rows child) i) null
row_at-masked child valid i h = row_at-masked_rows valid (rows child) i h.1.lengths

pub ruleset reads = (length-primitive, row_at-primitive, length-constant, row_at-replicate, length-masked, row_at-masked)
