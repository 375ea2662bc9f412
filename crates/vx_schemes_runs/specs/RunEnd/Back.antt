-- The runs of rows give the rows back.
use Rattle.std.proofs.Common.{◌≡◌, ◌<◌, ◌≤◌, ◌+◌, ◌-◌, ◌∙◌, ℕ, zero, suc, ℤ, Bool, true, false, cond, List, [], ◌∷◌, ◌++◌, length, map, Option, refl, sym, ap, arith, inl, inr}
use Rattle.std.specs.Prelude.{◌==◌, max, filter}
use Rattle.std.specs.List.{range_with_len}
use Rattle.std.proofs.lemmas.Bool.{cond-true, cond-false, or_parts, lt-ltb, le-ltb, eq-eqb, cases_lt}
use Rattle.std.proofs.lemmas.List.{length-append}
use Rattle.vx_base.specs.PlainValue.{PlainValue}
use Rattle.vx_blocks.specs.Optional.{differs}
use Rattle.vx_blocks.specs.Runs.{ends_run, run_ends}
use Rattle.vx_blocks.proofs.RunEnds.{ends_to, ends-all}
use Rattle.vx_model.specs.Rows.{row_at, offset_at, run_value}
use Rattle.vx_model.proofs.RunEndLemmas.{last_end}
use Rattle.vx_schemes_common.specs.Narrowed.{number_rows}
use Rattle.vx_schemes_common.specs.NarrowedLaws.{number_rows-long}
use Rattle.vx_schemes_runs.specs.RowsAtLaws.{RowsFollow}

module _ (os : List (Option ℤ)) (vs : List PlainValue) (follow : RowsFollow os vs) where
  -- the ends from one on
  abbrev ends_from : ℕ → ℕ → List ℕ
  ends_from start n = filter (ends_run os) (range_with_len start n)

  -- a row's value by the runs that end there
  abbrev found : List ℕ → ℕ → PlainValue
  found ends i = run_value (number_rows ends) (map (row_at vs) (map (λ end. end - 1) ends)) i

  -- the runs from one on have a row, or where it lies before them the row before
  runs-from : (i start n : ℕ) → 0 < start → start ≤ length os → start + n ≡ length os + 1 → i < length os → found (ends_from start n) i ≡ row_at vs (max i (start - 1))
  runs-from i start zero s l e m = absurd (omega arith)
  runs-from i start (suc n) s l e m = pick (ends_run os start) refl (λ next. runs-from i (start + 1) n (omega arith) next (omega arith) m)
    where
      pick : (b : Bool) → ends_run os start ≡ b → (start + 1 ≤ length os → found (ends_from (start + 1) n) i ≡ row_at vs (max i (start + 1 - 1)))
          → found (cond b (start ∷ ends_from (start + 1) n) (ends_from (start + 1) n)) i ≡ row_at vs (max i (start - 1))
      pick true t rest =
          elim (cases_lt i start) [
            | inl less ↦ let here : start - 1 ≡ max i (start - 1) = omega arith in cond-true _ _ _ (lt-ltb i start less) ∙ ap (row_at vs) here
            | inr more ↦ let there : max i (start + 1 - 1) ≡ max i (start - 1) = omega arith in cond-false _ _ _ (le-ltb i start more) ∙ rest (omega arith) ∙ ap (row_at vs) there
          ]
      pick false t rest =
          let both = or_parts (start == length os) (differs os start) t in
          elim (cases_lt start (length os)) [
            | inl less ↦
                elim (cases_lt i start) [
                  | inl before ↦
                      let here : max i (start + 1 - 1) ≡ start = omega arith in
                      let there : start - 1 ≡ max i (start - 1) = omega arith in
                      rest (omega arith) ∙ ap (row_at vs) here ∙ sym (follow start both.1) ∙ ap (row_at vs) there
                  | inr more ↦ let there : max i (start + 1 - 1) ≡ max i (start - 1) = omega arith in rest (omega arith) ∙ ap (row_at vs) there
                ]
            | inr far ↦ let last : start ≡ length os = omega arith in let own = eq-eqb start (length os) last in absurd cc
          ]

  -- a row by the runs is the row
  pub runs-back : (i : ℕ) → i < length os → found (run_ends os) i ≡ row_at vs i
  runs-back i l = let same : max i (1 - 1) ≡ i = omega arith in runs-from i 1 (length os) (omega arith) (omega arith) (omega arith) l ∙ ap (row_at vs) same

-- ---- the last end

last-at : (ends : List ℕ) (n : ℕ) → offset_at (number_rows (ends ++ n ∷ [])) (length ends) ≡ n
last-at [] n = refl
last-at (end ∷ ends) n = last-at ends n

last-is : (ends : List ℕ) (n : ℕ) → last_end (number_rows (ends ++ n ∷ [])) ≡ n
last-is ends n =
    let place : length (number_rows (ends ++ n ∷ [])) - 1 ≡ length ends = omega (arith, number_rows-long (ends ++ n ∷ []), length-append ends (n ∷ [])) in
    ap (offset_at (number_rows (ends ++ n ∷ []))) place ∙ last-at ends n

-- the last run ends behind the last row
pub last_end-rows : (os : List (Option ℤ)) → last_end (number_rows (run_ends os)) ≡ length os
last_end-rows [] = refl
last_end-rows (o ∷ os) = ap (λ ends. last_end (number_rows ends)) (ends-all (o ∷ os) (omega arith)) ∙ last-is (ends_to (o ∷ os) (length (o ∷ os) - 1)) (length (o ∷ os))
