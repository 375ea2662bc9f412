-- Null rows of a dictionary, by its codes.
use Rattle.std.proofs.Common.{◌≡◌, ◌<◌, ◌∙◌, ℕ, zero, suc, ◌+◌, pos, Bool, true, false, cond, List, [], ◌∷◌, map, length, refl, sym, ap, arith}
use Rattle.std.specs.Prelude.{count_by}
use Rattle.std.specs.List.{list_all}
use Rattle.std.proofs.lemmas.Bool.{and_parts, ltb-true}
use Rattle.std.proofs.lemmas.List.Sums.{sum_by-cons}
use Rattle.vx_base.specs.PlainValue.{PlainValue, null, int, is_null}
use Rattle.vx_model.specs.Column.{column_of}
use Rattle.vx_model.specs.Rows.{looked_up, row_at, rows}
use Rattle.vx_model.specs.Tree.{Tree, dict}
use Rattle.vx_model.specs.WellFormed.{is_place}
use Rattle.vx_rules.specs.Aggregates.{null_count}

pub count-next : (p : PlainValue → Bool) (v : PlainValue) (vs : List PlainValue) → count_by p (v ∷ vs) ≡ cond (p v) 1 0 + count_by p vs
count-next p v vs = sum_by-cons (λ w. cond (p w) 1 0) v vs

-- a value in bounds isn't null where none is
some-valid : (vs : List PlainValue) (k : ℕ) → count_by is_null vs ≡ 0 → k < length vs → is_null (row_at vs k) ≡ false
some-valid [] k e l = absurd (omega arith)
some-valid (v ∷ vs) zero e l = by (is_null v) refl
  where
    by : (b : Bool) → is_null v ≡ b → is_null v ≡ false
    by false h = h
    by true h = let one : ◌≡◌ {A = ℕ} (cond (is_null v) 1 0) 1 = ap (λ b. cond b 1 0) h in absurd (omega (arith, one, count-next is_null v vs, e))
some-valid (v ∷ vs) (suc k) e l = some-valid vs k (omega (arith, count-next is_null v vs, e)) (omega arith)

-- where no value is null, a row is null exactly where its code is
pub picks_valid : (vs codes : List PlainValue) → count_by is_null vs ≡ 0 → list_all (is_place (length vs)) codes ≡ true
    → count_by is_null codes ≡ count_by (λ code. is_null (looked_up vs code)) codes
picks_valid vs [] e h = refl
picks_valid vs (null ∷ codes) e h =
    omega (arith, count-next is_null null codes, count-next (λ code. is_null (looked_up vs code)) null codes, picks_valid vs codes e h)
picks_valid vs (int (pos k) ∷ codes) e h =
    let p = and_parts (is_place (length vs) (int (pos k))) (list_all (is_place (length vs)) codes) h in
    let here : ◌≡◌ {A = ℕ} (cond (is_null (row_at vs k)) 1 0) 0 = ap (λ b. cond b 1 0) (some-valid vs k e (ltb-true _ _ p.0)) in
    omega (arith, here, count-next is_null (int (pos k)) codes, count-next (λ code. is_null (looked_up vs code)) (int (pos k)) codes, picks_valid vs codes e p.1)
picks_valid vs (v ∷ codes) e h = absurd cc

-- the rows are counted by their codes
pub count-picks : (vs codes : List PlainValue) → count_by (λ code. is_null (looked_up vs code)) codes ≡ count_by is_null (map (looked_up vs) codes)
count-picks vs [] = refl
count-picks vs (code ∷ codes) =
    count-next (λ c. is_null (looked_up vs c)) code codes
    ∙ ap (λ n. cond (is_null (looked_up vs code)) 1 0 + n) (count-picks vs codes)
    ∙ sym (count-next is_null (looked_up vs code) (map (looked_up vs) codes))

pub rows-picked : (codes values : Tree) (cs vs : List PlainValue) → cs ≡ rows codes → vs ≡ rows values
    → count_by (λ code. is_null (looked_up vs code)) cs ≡ null_count (column_of (dict codes values))
rows-picked codes values cs vs e f = (λ i. count_by (λ code. is_null (looked_up (f i) code)) (e i)) ∙ count-picks (rows values) (rows codes)
