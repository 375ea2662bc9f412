-- Truth values and their validity: rows that are set, two columns, and as a tree.
use Rattle.std.proofs.Common.{◌≡◌, ◌∙◌, Bool, true, false, cond, ℕ, zero, suc, List, [], ◌∷◌, map, length, set, Option, Some, None, refl, sym, ap, arith, unwrap_or}
use Rattle.std.specs.Prelude.{◌&&◌, is_some, replicate}
use Rattle.std.specs.List.{list_all}
use Rattle.std.proofs.lemmas.Bool.{and_parts, eq-eqb, eqb-true}
use Rattle.std.proofs.lemmas.List.{length-map}
use Rattle.vx_base.specs.declared.dtype.Nullability.{Nullability}
use Rattle.vx_base.specs.declared.dtype.Nullability.TheVariants.{NonNullable, Nullable}
use Rattle.vx_base.specs.PlainScalar.{fits}
use Rattle.vx_base.specs.PlainType.{PlainType}
use Rattle.vx_base.specs.PlainType as types
use Rattle.vx_base.specs.PlainValue.{PlainValue, null, truth}
use Rattle.vx_model.specs.Column.{column, column_of}
use Rattle.vx_model.specs.Refusals.{kept, primitive_refusal, validity_length, validity_allowed}
use Rattle.vx_model.specs.Rows.{masked_rows, valid_rows}
use Rattle.vx_model.specs.Tree.{Validity, bool}
use Rattle.vx_rows.specs.Pairs.{both_true, both_valid, each_pair}
use Rattle.vx_rows.specs.Truths.{truth_or_null}
use Rattle.vx_rows.proofs.PairLemmas.{length-each_pair}
use Rattle.vx_rows.proofs.ValidLemmas.{pair-valid}

-- ---- rows that are set

nulls-are : (n : ℕ) → masked_rows (replicate n false) (map truth (replicate n false)) ≡ replicate n null
nulls-are zero = refl
nulls-are (suc n) = ap (λ rs. null ∷ rs) (nulls-are n)

pub nulls : (valid values : List Bool) (n : ℕ) → valid ≡ replicate n false → values ≡ replicate n false → masked_rows valid (map truth values) ≡ replicate n null
nulls valid values n e f = (λ i. masked_rows (e i) (map truth (f i))) ∙ nulls-are n

row-is : (row : Option Bool) → cond (is_some row) (truth (unwrap_or row false)) null ≡ truth_or_null row
row-is None = refl
row-is (Some b) = refl

pub set-rows : (valid values : List Bool) (i : ℕ) (row : Option Bool) → length valid ≡ length values
    → masked_rows (set valid i (is_some row)) (map truth (set values i (unwrap_or row false))) ≡ set (masked_rows valid (map truth values)) i (truth_or_null row)
set-rows [] [] i row e = refl
set-rows [] (v ∷ values) i row e = absurd (omega arith)
set-rows (b ∷ valid) [] i row e = absurd (omega arith)
set-rows (b ∷ valid) (v ∷ values) zero row e = λ j. row-is row j ∷ masked_rows valid (map truth values)
set-rows (b ∷ valid) (v ∷ values) (suc i) row e = ap (λ rs. cond b (truth v) null ∷ rs) (set-rows valid values i row (omega arith))

-- ---- rows by the one form of their validity

masked-all : (bits : List Bool) (xs : List PlainValue) → length bits ≡ length xs → list_all (λ bit. bit) bits ≡ true → masked_rows bits xs ≡ xs
masked-all [] [] e h = refl
masked-all [] (x ∷ xs) e h = absurd (omega arith)
masked-all (b ∷ bits) [] e h = absurd (omega arith)
masked-all (true ∷ bits) (x ∷ xs) e h = ap (λ rs. x ∷ rs) (masked-all bits xs (omega arith) h)
masked-all (false ∷ bits) (x ∷ xs) e h = absurd cc

pub kept-rows : (valid : Validity) (xs : List PlainValue) → validity_length valid (length xs) ≡ true → valid_rows (kept valid) xs ≡ valid_rows valid xs
kept-rows None xs h = refl
kept-rows (Some bits) xs h = by_all (list_all (λ bit. bit) bits) refl
  where
    by_all : (b : Bool) → list_all (λ bit. bit) bits ≡ b → valid_rows (cond b None (Some bits)) xs ≡ masked_rows bits xs
    by_all true all = sym (masked-all bits xs (eqb-true (length bits) (length xs) h) all)
    by_all false all = refl

-- ---- a type without null

pub all_valid : (t : PlainType) (bits : List Bool) (xs : List PlainValue) → fits t null ≡ false → length bits ≡ length xs → list_all (fits t) (masked_rows bits xs) ≡ true → list_all (λ bit. bit) bits ≡ true
all_valid t [] xs n e h = refl
all_valid t (b ∷ bits) [] n e h = absurd (omega arith)
all_valid t (true ∷ bits) (x ∷ xs) n e h = all_valid t bits xs n (omega arith) (and_parts (fits t x) (list_all (fits t) (masked_rows bits xs)) h).1
all_valid t (false ∷ bits) (x ∷ xs) n e h = let no : fits t null ≡ true = (and_parts (fits t null) (list_all (fits t) (masked_rows bits xs)) h).0 in absurd cc

truths_allowed : (valid : Validity) (xs : List PlainValue) (n : Nullability) → validity_length valid (length xs) ≡ true → list_all (fits (types.boolean n)) (valid_rows valid xs) ≡ true → validity_allowed valid n ≡ true
truths_allowed None xs n l h = refl
truths_allowed (Some bits) xs Nullable l h = refl
truths_allowed (Some bits) xs NonNullable l h = all_valid (types.boolean NonNullable) bits xs refl (eqb-true (length bits) (length xs) l) h

-- ---- truth values as a tree

module _ (bs : List Bool) (valid : Validity) (n : Nullability) (l : validity_length valid (length bs) ≡ true) where
  of_truths : validity_length valid (length (map truth bs)) ≡ true
  of_truths = rw length-map l

  pub truths-admitted : list_all (fits (types.boolean n)) (valid_rows valid (map truth bs)) ≡ true → primitive_refusal (length bs) valid n ≡ None
  truths-admitted h = rw (l, truths_allowed valid (map truth bs) n of_truths h) refl

  pub truths-made : column_of (bool bs (kept valid) n) ≡ column (types.boolean n) (valid_rows valid (map truth bs))
  truths-made = ap (column (types.boolean n)) (kept-rows valid (map truth bs) of_truths)

-- ---- two columns of truth values

pub both-rows : (valid others : Validity) (bs cs : List Bool)
    → valid_rows (both_valid valid others) (map truth (each_pair (λ a b. a && b) bs cs)) ≡ each_pair both_true (valid_rows valid (map truth bs)) (valid_rows others (map truth cs))
both-rows valid others bs cs = sym (pair-valid both_true truth truth (λ a b. a && b) truth (λ v. refl) (λ a. refl) (λ a b. refl) valid others bs cs)

pub both-long : (valid others : Validity) (n m k : ℕ) → validity_length valid n ≡ true → validity_length others m ≡ true → n ≡ m → k ≡ n → validity_length (both_valid valid others) k ≡ true
both-long None None n m k h l e f = refl
both-long None (Some others) n m k h l e f = ap (validity_length (Some others)) (f ∙ e) ∙ l
both-long (Some bits) None n m k h l e f = ap (validity_length (Some bits)) f ∙ h
both-long (Some bits) (Some others) n m k h l e f =
    let left = eqb-true (length bits) n h in
    let right = eqb-true (length others) m l in
    eq-eqb (length (each_pair (λ a b. a && b) bits others)) k (length-each_pair (λ a b. a && b) bits others (left ∙ e ∙ sym right) ∙ left ∙ sym f)
