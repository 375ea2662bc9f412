-- Which columns are null in every row, or in most of them, by the count of their nulls.
use Rattle.std.proofs.Common.{◌≡◌, ◌<◌, ◌≤◌, ◌+◌, ◌∙◌, ℕ, Bool, true, false, cond, List, [], ◌∷◌, length, refl, ap, arith}
use Rattle.std.specs.Prelude.{◌&&◌, ◌||◌}
use Rattle.std.specs.List.{list_all, list_any}
use Rattle.std.proofs.lemmas.Bool.{and_parts}
use Rattle.std.proofs.lemmas.List.Sums.{sum_by-cons, count_by-le-length}
use Rattle.vx_base.specs.PlainScalar.{fits}
use Rattle.vx_base.specs.PlainValue.{PlainValue, null, is_null}
use Rattle.vx_base.proofs.NullLemmas.{null-fitted}
use Rattle.vx_model.specs.Rows.{rows}
use Rattle.vx_model.specs.Tree.{Tree}
use Rattle.vx_model.specs.TreeType.{tree_type}
use Rattle.vx_model.specs.WellFormed.{WellFormed}
use Rattle.vx_model.proofs.MadeLemmas.{rows_fit}
use Rattle.vx_stats.specs.Stats.{null_count}

null_count-more : (v : PlainValue) (vs : List PlainValue) → null_count (v ∷ vs) ≡ cond (is_null v) 1 0 + null_count vs
null_count-more v vs = sum_by-cons (λ w. cond {A = ℕ} (is_null w) 1 0) v vs

-- where the null count is the length, all rows are null
pub all-counted : (vs : List PlainValue) → null_count vs ≡ length vs → list_all is_null vs ≡ true
all-counted [] e = refl
all-counted (v ∷ vs) e = pick (is_null v) refl (null_count-more v vs) (count_by-le-length is_null vs) (all-counted vs)
  where
    pick : (b : Bool) → is_null v ≡ b → null_count (v ∷ vs) ≡ cond (is_null v) 1 0 + null_count vs → null_count vs ≤ length vs → (null_count vs ≡ length vs → list_all is_null vs ≡ true) → (is_null v && list_all is_null vs) ≡ true
    pick true n more few rest =
        let one : cond {A = ℕ} (is_null v) 1 0 ≡ 1 = ap {B = ℕ} (λ b. cond b 1 0) n in
        ap (λ b. b && list_all is_null vs) n ∙ rest (omega arith)
    pick false n more few rest = let none : cond {A = ℕ} (is_null v) 1 0 ≡ 0 = ap {B = ℕ} (λ b. cond b 1 0) n in absurd (omega arith)

-- and the other way round
nulls-counted : (vs : List PlainValue) → list_all is_null vs ≡ true → null_count vs ≡ length vs
nulls-counted [] h = refl
nulls-counted (v ∷ vs) h =
    let b = and_parts (is_null v) (list_all is_null vs) h in
    let one : cond {A = ℕ} (is_null v) 1 0 ≡ 1 = ap {B = ℕ} (λ b. cond b 1 0) b.0 in
    let rest = nulls-counted vs b.1 in
    let more = null_count-more v vs in
    omega arith

-- another null count, and not all rows are null
pub not-counted : (vs : List PlainValue) → (null_count vs ≡ length vs → ⊥) → list_all is_null vs ≡ false
not-counted vs other = pick (list_all is_null vs) refl
  where
    pick : (b : Bool) → list_all is_null vs ≡ b → b ≡ false
    pick true h = absurd (other (nulls-counted vs h))
    pick false h = refl

some-null : (vs : List PlainValue) → 0 < length vs → list_all is_null vs ≡ true → list_any is_null vs ≡ true
some-null [] some h = absurd (omega arith)
some-null (v ∷ vs) some h = ap (λ b. b || list_any is_null vs) (and_parts (is_null v) (list_all is_null vs) h).0

-- the type of nulls alone has null
pub nulls-fit : (t : Tree) → WellFormed t → 0 < length (rows t) → list_all is_null (rows t) ≡ true → fits (tree_type t) null ≡ true
nulls-fit t w some h = null-fitted (tree_type t) (rows t) (rows_fit t w) (some-null (rows t) some h)
