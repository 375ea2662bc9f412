-- Pieces by indices: the row with each index, a filling at a null one, which is null in the end.
use Rattle.std.proofs.Common.{◌≡◌, ◌<◌, ◌≤◌, ◌+◌, ◌^◌, ◌++◌, ℕ, zero, suc, ℤ, pos, negsuc, Bool, true, false, cond, List, [], ◌∷◌, length, map, take, Some, None, Option, refl, sym, ap, subst, to_z, of_z, arith, ◌∙◌}
use Rattle.std.specs.Int.{w128}
use Rattle.std.specs.Prelude.{slice_index_or}
use Rattle.std.proofs.Math.IntN.{nat_abs}
use Rattle.std.specs.List.{list_all}
use Rattle.std.proofs.lemmas.Bool.{and_parts, eqb-true, ltb-true}
use Rattle.std.proofs.lemmas.Int.{to_z-of_z}
use Rattle.std.proofs.lemmas.List.{length-map, map-append, take_all}
use Rattle.vx_base.specs.declared.dtype.Nullability.{Nullability}
use Rattle.vx_base.specs.declared.dtype.Nullability.TheVariants.{NonNullable, Nullable}
use Rattle.vx_base.specs.declared.ptype.PType.{PType}
use Rattle.vx_base.specs.Defaults.{null_or_default}
use Rattle.vx_base.specs.PlainType.{PlainType, nullability_of, or_nullable, with_nullability}
use Rattle.vx_base.specs.PlainType as types
use Rattle.vx_base.specs.PlainValue.{PlainValue, cell, null, int}
use Rattle.vx_model.specs.Column.{Column, column}
use Rattle.vx_model.specs.Refusals.{validity_allowed, validity_length}
use Rattle.vx_model.specs.Rows.{masked_rows, row_at, valid_rows, looked_up}
use Rattle.vx_model.specs.Tree.{Validity}
use Rattle.vx_model.specs.WellFormed.{is_place}
use Rattle.vx_model.proofs.RowLemmas.{length-cells, row_at-cells}
use Rattle.vx_rules.specs.Selections.{taken}
use Rattle.vx_selections.specs.Chosen.{row_or, rows_or}
use Rattle.vx_selections.specs.Narrowed.{Restricts, restricted}

-- ---- index by index

take-step : {A : Type 0} (xs : List A) (row : ℕ) (other : A) → row < length xs → take (suc row) xs ≡ take row xs ++ slice_index_or xs row other ∷ []
take-step [] row other l = absurd (omega arith)
take-step (x ∷ xs) zero other l = refl
take-step (x ∷ xs) (suc row) other l = ap (λ ys. x ∷ ys) (take-step xs row other (omega arith))

pub rows_or-next : (item : PlainValue) (values rs : List PlainValue) (row : ℕ) → row < length rs → rows_or item values (take (row + 1) rs) ≡ rows_or item values (take row rs) ++ row_or item values (row_at rs row) ∷ []
rows_or-next item values rs row l =
    let next : row + 1 ≡ suc row = omega arith in
    ap (λ n. rows_or item values (take n rs)) next ∙ ap (rows_or item values) (take-step rs row null l) ∙ map-append (row_or item values) (take row rs) (row_at rs row ∷ [])

-- past the last index
pub rows_or-end : (item : PlainValue) (values rs : List PlainValue) (row : ℕ) → length rs ≤ row → rows_or item values (take row rs) ≡ rows_or item values rs
rows_or-end item values rs row l = ap (rows_or item values) (take_all row rs l)

-- an index in bounds, read as the number of a row
pub place-row : (len : ℕ) (code : ℤ) (index : Option ℤ) (item : PlainValue) (values : List PlainValue) → index ≡ Some code → is_place len (cell index) ≡ true → len < 2 ^ 64 → length values ≡ len
    → (nat_abs (to_z w128 (of_z w128 code)) < length values) × (row_at values (nat_abs (to_z w128 (of_z w128 code))) ≡ row_or item values (cell index))
place-row len code index item values is place fits long = by_code code is (ap (λ x. is_place len (cell x)) (sym is) ∙ place)
  where
    by_code : (code : ℤ) → index ≡ Some code → is_place len (int code) ≡ true
        → (nat_abs (to_z w128 (of_z w128 code)) < length values) × (row_at values (nat_abs (to_z w128 (of_z w128 code))) ≡ row_or item values (cell index))
    by_code (pos k) is place =
        let within : k < len = ltb-true k len place in
        let same = to_z-of_z w128 (pos k) (omega (arith, within, fits)) in (
          subst (λ n. n < length values) (ap nat_abs (sym same)) (omega (arith, within, long)),
          ap (λ z. row_at values (nat_abs z)) same ∙ ap (λ x. row_or item values (cell x)) (sym is),
        )
    by_code (negsuc k) is place = absurd cc

-- a null index is a filling
pub filled-row : (item : PlainValue) (values : List PlainValue) (index : Option ℤ) → index ≡ None → item ≡ row_or item values (cell index)
filled-row item values index is = ap (λ x. row_or item values (cell x)) (sym is)

-- ---- in the end null at the null indices

looked_index : (item : PlainValue) (values : List PlainValue) (z : ℤ) → is_place (length values) (int z) ≡ true → row_or item values (int z) ≡ looked_up values (int z)
looked_index item values (pos k) h = refl
looked_index item values (negsuc k) h = absurd cc

looked_all : (item : PlainValue) (values : List PlainValue) (zs : List ℤ) → list_all (is_place (length values)) (map int zs) ≡ true → rows_or item values (map int zs) ≡ map (looked_up values) (map int zs)
looked_all item values [] h = refl
looked_all item values (z ∷ zs) h =
    let b = and_parts (is_place (length values) (int z)) (list_all (is_place (length values)) (map int zs)) h in
    λ i. looked_index item values z b.0 i ∷ looked_all item values zs b.1 i

masked_index : (item : PlainValue) (values : List PlainValue) (b : Bool) (z : ℤ) → is_place (length values) (cond b (int z) null) ≡ true → cond b (row_or item values (cond b (int z) null)) null ≡ looked_up values (cond b (int z) null)
masked_index item values true z h = looked_index item values z h
masked_index item values false z h = refl

masked_indices : (item : PlainValue) (values : List PlainValue) (bits : List Bool) (zs : List ℤ) → length bits ≡ length zs → list_all (is_place (length values)) (masked_rows bits (map int zs)) ≡ true
    → masked_rows bits (rows_or item values (masked_rows bits (map int zs))) ≡ map (looked_up values) (masked_rows bits (map int zs))
masked_indices item values [] zs l h = refl
masked_indices item values (b ∷ bits) [] l h = absurd (omega arith)
masked_indices item values (b ∷ bits) (z ∷ zs) l h =
    let a = and_parts (is_place (length values) (cond b (int z) null)) (list_all (is_place (length values)) (masked_rows bits (map int zs))) h in
    λ i. masked_index item values b z a.0 i ∷ masked_indices item values bits zs (omega arith) a.1 i

pub rows_or-valid : (item : PlainValue) (values : List PlainValue) (valid : Validity) (zs : List ℤ) → validity_length valid (length zs) ≡ true → list_all (is_place (length values)) (valid_rows valid (map int zs)) ≡ true
    → valid_rows valid (rows_or item values (valid_rows valid (map int zs))) ≡ map (looked_up values) (valid_rows valid (map int zs))
rows_or-valid item values None zs l h = looked_all item values zs h
rows_or-valid item values (Some bits) zs l h = masked_indices item values bits zs (eqb-true _ _ l) h

pub length-rows_or : (item : PlainValue) (values : List PlainValue) (valid : Validity) (zs : List ℤ) → validity_length valid (length zs) ≡ true → length (rows_or item values (valid_rows valid (map int zs))) ≡ length zs
length-rows_or item values valid zs l = length-map (valid_rows valid (map int zs)) (row_or item values) ∙ length-cells valid zs l

-- ---- a column that indices give, made null at the null indices

module _ (t : PlainType) (values : List PlainValue) (valid : Validity) (p : PType) (zs : List ℤ) (m : Nullability) (long : validity_length valid (length zs) ≡ true) (allowed : validity_allowed valid m ≡ true)
    (places : list_all (is_place (length values)) (valid_rows valid (map int zs)) ≡ true) where
  abbrev pub indexed : Column
  indexed = column t (rows_or (null_or_default t) values (valid_rows valid (map int zs)))

  either_allowed : (n : Nullability) → validity_allowed valid (or_nullable n m) ≡ true
  either_allowed NonNullable = allowed
  either_allowed Nullable = nullable valid
    where
      nullable : (valid : Validity) → validity_allowed valid Nullable ≡ true
      nullable None = refl
      nullable (Some bits) = refl

  twice : (n : Nullability) → or_nullable n (or_nullable n m) ≡ or_nullable n m
  twice NonNullable = refl
  twice Nullable = refl

  pub indexed_restricts : (c : Column) (k : Nullability) → c ≡ indexed → k ≡ or_nullable (nullability_of t) m → Restricts valid k c
  indexed_restricts c k e f = record {
    long = ap (λ d. validity_length valid (length d.values)) e ∙ ap (validity_length valid) (length-rows_or (null_or_default t) values valid zs long) ∙ long;
    allowed = ap (validity_allowed valid) f ∙ either_allowed (nullability_of t);
    wider = (λ i. or_nullable (nullability_of (e i).dtype) (f i)) ∙ twice (nullability_of t) ∙ sym f;
  }

  pub indexed_taken : (c : Column) (k : Nullability) → c ≡ indexed → k ≡ or_nullable (nullability_of t) m → restricted valid k c ≡ taken (column t values) (column (types.primitive p m) (valid_rows valid (map int zs)))
  indexed_taken c k e f = (λ i. restricted valid (f i) (e i)) ∙ ap (column (with_nullability t (or_nullable (nullability_of t) m))) (rows_or-valid (null_or_default t) values valid zs long places)

pub ruleset cells = (row_at-cells)
