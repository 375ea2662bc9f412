-- Columns of nulls alone, and columns whose valid rows are all one value.
use Rattle.std.proofs.Common.{◌≡◌, ◌<◌, ◌≤◌, ◌+◌, ◌&&◌, ℕ, ℤ, zero, suc, take, arith, add-one, Bool, true, false, List, [], ◌∷◌, length, Option, Some, None, cond, refl, sym, ap, subst, ◌∙◌}
use Rattle.std.specs.Prelude.{replicate, if◌then◌else◌, option_and_then, option_map, position, slice_get, nat_lt, not}
use Rattle.std.specs.List.{list_all, list_any, find, position_or_len}
use Rattle.std.proofs.lemmas.Bool.{cond_both, and_parts, ltb-true, ltb-false}
use Rattle.std.proofs.lemmas.List.{take_all}
use Rattle.std.proofs.lemmas.List.Folds.{find_at}
use Rattle.std.proofs.lemmas.Option.{slice_get-get_or, slice_get_past}
use Rattle.vx_base.specs.Storable.{same_path}
use Rattle.vx_base.specs.PlainValue.{PlainValue, null, int, is_null, same_value, stored_value}
use Rattle.vx_model.specs.Rows.{rows, masked_rows, row_at}
use Rattle.vx_model.specs.TreeType.{tree_type}
use Rattle.vx_model.specs.Column.{Column}
use Rattle.vx_model.specs.Plain.{valid_bits}
use Rattle.vx_model.specs.Leaf.{first_valid, each_null_or, one_value, one_value_tree}

pub first_valid-none : (vs : List PlainValue) → first_valid vs ≡ None → list_all is_null vs ≡ true
first_valid-none [] e = refl
first_valid-none (null ∷ vs) e = first_valid-none vs e
first_valid-none (v ∷ vs) e = absurd cc

pub first_valid-some : (vs : List PlainValue) (v : PlainValue) → first_valid vs ≡ Some v → list_all is_null vs ≡ false
first_valid-some [] v e = absurd cc
first_valid-some (null ∷ vs) v e = first_valid-some vs v e
first_valid-some (w ∷ vs) v e = refl

pub first_valid-valid : (vs : List PlainValue) (v : PlainValue) → first_valid vs ≡ Some v → is_null v ≡ false
first_valid-valid [] v e = absurd cc
first_valid-valid (null ∷ vs) v e = first_valid-valid vs v e
first_valid-valid (w ∷ vs) v e = let same : w ≡ v = cc in ap is_null (sym same)

-- it is the row at the first index that isn't null
first_valid-find : (vs : List PlainValue) → first_valid vs ≡ find (λ v. not (is_null v)) vs
first_valid-find [] = refl
first_valid-find (null ∷ vs) = first_valid-find vs
first_valid-find (v ∷ vs) = refl

row_at-place : (vs : List PlainValue) (i : ℕ) → slice_get vs i ≡ option_map (row_at vs) (cond (nat_lt i (length vs)) (Some i) None)
row_at-place vs i = cond_both (nat_lt i (length vs)) (Some i) None (λ o. slice_get vs i ≡ option_map (row_at vs) o) (λ e. slice_get-get_or vs i null (ltb-true i (length vs) e)) (λ e. slice_get_past vs i (ltb-false i (length vs) e))

pub first_valid-position : (vs : List PlainValue) → first_valid vs ≡ option_map (row_at vs) (position (λ v. not (is_null v)) vs)
first_valid-position vs = first_valid-find vs ∙ find_at (λ v. not (is_null v)) vs ∙ row_at-place vs (position_or_len (λ v. not (is_null v)) vs)

-- only nulls are copies of null
pub replicate-nulls : (vs : List PlainValue) → list_all is_null vs ≡ true → replicate (length vs) null ≡ vs
replicate-nulls [] e = refl
replicate-nulls (null ∷ vs) e = ap (λ r. null ∷ r) (replicate-nulls vs e)
replicate-nulls (v ∷ vs) e = absurd cc

-- rows of one value are copies of it
pub replicate-one : (vs : List PlainValue) (v : PlainValue) → each_null_or v vs ≡ true → list_any is_null vs ≡ false → replicate (length vs) v ≡ vs
replicate-one [] v e none = refl
replicate-one (null ∷ vs) v e none = absurd cc
replicate-one (w ∷ vs) v e none =
    let both = and_parts (same_value w v) (each_null_or v vs) e in
    let same : w ≡ v = same_path stored_value w v both.0 in
    λ i. sym same i ∷ replicate-one vs v both.1 none i

-- where rows are null, the validity bits mask it
pub masked_rows-one : (vs : List PlainValue) (v : PlainValue) → each_null_or v vs ≡ true → masked_rows (valid_bits vs) (replicate (length vs) v) ≡ vs
masked_rows-one [] v e = refl
masked_rows-one (null ∷ vs) v e = ap (λ r. null ∷ r) (masked_rows-one vs v e)
masked_rows-one (w ∷ vs) v e =
    let both = and_parts (same_value w v) (each_null_or v vs) e in
    let same : w ≡ v = same_path stored_value w v both.0 in
    λ i. sym same i ∷ masked_rows-one vs v both.1 i

pub one_value-some : (vs : List PlainValue) (v : PlainValue) → one_value vs ≡ Some v → each_null_or v vs ≡ true
one_value-some vs v = of_first (first_valid vs)
  where
    of_each : (w : PlainValue) (b : Bool) → each_null_or w vs ≡ b → cond b (Some w) None ≡ Some v → each_null_or v vs ≡ true
    of_each w true each e = let same : w ≡ v = cc in subst (λ u. each_null_or u vs ≡ true) same each
    of_each w false each e = absurd cc

    of_first : (o : Option PlainValue) → option_and_then (λ w. if each_null_or w vs then Some w else None) o ≡ Some v → each_null_or v vs ≡ true
    of_first None e = absurd cc
    of_first (Some w) e = of_each w (each_null_or w vs) refl e

pub rows-one_value_tree : (c : Column) (v : PlainValue) → each_null_or v c.values ≡ true → rows (one_value_tree c v) ≡ c.values
rows-one_value_tree c v e = cond_both (list_any is_null c.values) _ _ (λ t. rows t ≡ c.values) (λ some. masked_rows-one c.values v e) (replicate-one c.values v e)

pub type-one_value_tree : (c : Column) (v : PlainValue) → tree_type (one_value_tree c v) ≡ c.dtype
type-one_value_tree c v = cond_both (list_any is_null c.values) _ _ (λ t. tree_type t ≡ c.dtype) (λ some. refl) (λ none. refl)

-- ---- one step of the search for a valid row, and of the test of each row

first_valid-at : (vs : List PlainValue) (i : ℕ) → i < length vs → list_all is_null (take i vs) ≡ true → is_null (row_at vs i) ≡ false → first_valid vs ≡ Some (row_at vs i)
first_valid-at [] i h e f = absurd (omega arith)
first_valid-at (null ∷ vs) zero h e f = absurd cc
first_valid-at (null ∷ vs) (suc i) h e f = first_valid-at vs i (omega arith) e f
first_valid-at (v ∷ vs) zero h e f = refl
first_valid-at (v ∷ vs) (suc i) h e f = absurd cc

pub first_valid-found : (vs : List PlainValue) (i : ℕ) (z : ℤ) → i < length vs → list_all is_null (take i vs) ≡ true → int z ≡ row_at vs i → Some (int z) ≡ first_valid vs
first_valid-found vs i z h e f = rw f (sym (first_valid-at vs i h e (ap is_null (sym f))))

pub first_valid-nulls : (vs : List PlainValue) (i : ℕ) → length vs ≤ i → list_all is_null (take i vs) ≡ true → None ≡ first_valid vs
first_valid-nulls vs i h e = all vs (rw (take_all i vs h) at e)
  where
    all : (vs : List PlainValue) → list_all is_null vs ≡ true → None ≡ first_valid vs
    all [] e = refl
    all (null ∷ vs) e = all vs e
    all (v ∷ vs) e = absurd cc

module _ (p : PlainValue → Bool) where
  list_all-next-suc : (vs : List PlainValue) (i : ℕ) → i < length vs → list_all p (take i vs) ≡ true → p (row_at vs i) ≡ true → list_all p (take (suc i) vs) ≡ true
  list_all-next-suc [] i h e f = absurd (omega arith)
  list_all-next-suc (v ∷ vs) zero h e f = rw f refl
  list_all-next-suc (v ∷ vs) (suc i) h e f = let both = and_parts (p v) (list_all p (take i vs)) e in rw (both.0, list_all-next-suc vs i (omega arith) both.1 f) refl

  pub list_all-next : (vs : List PlainValue) (i : ℕ) → i < length vs → list_all p (take i vs) ≡ true → p (row_at vs i) ≡ true → list_all p (take (i + 1) vs) ≡ true
  list_all-next vs i h e f = rw add-one (list_all-next-suc vs i h e f)

  pub list_all-stop : (vs : List PlainValue) (i : ℕ) → i < length vs → p (row_at vs i) ≡ false → list_all p vs ≡ false
  list_all-stop [] i h f = absurd (omega arith)
  list_all-stop (v ∷ vs) zero h f = rw f refl
  list_all-stop (v ∷ vs) (suc i) h f = rw (list_all-stop vs i (omega arith) f) (last (p v))
    where
      last : (b : Bool) → (b && false) ≡ false
      last true = refl
      last false = refl
