-- Runs by their ends: their rows, the search for a row's run, and that a constructor's tree is well formed.
use Rattle.std.proofs.Common.{◌≡◌, inl, inr, ◌<◌, ◌≤◌, ◌+◌, ◌-◌, ◌^◌, ◌∙◌, ℕ, zero, suc, pos, negsuc, List, [], ◌∷◌, length, refl, ap, sym, arith, Bool, true, false, cond, Some, None}
use Rattle.std.specs.Prelude.{int_lt, nat_lt, unwrap_or}
use Rattle.std.specs.List.{list_all}
use Rattle.std.proofs.lemmas.Bool.{cond-true, cond-false, lt-ltb, le-ltb, ltb-false, cases_lt, and_parts, eqb-true, not-true}
use Rattle.vx_base.specs.PlainScalar.{fits}
use Rattle.vx_base.specs.PlainValue.{PlainValue, int, whole_or_zero}
use Rattle.vx_model.specs.Refusals.{run_end_refusal}
use Rattle.vx_model.specs.Rows.{rows, row_at, index_of, offset_at, run_value}
use Rattle.vx_model.specs.Tree.{Tree, run_end}
use Rattle.vx_model.specs.TreeType.{tree_type}
use Rattle.vx_model.specs.WellFormed.{WellFormed, ascend}
use Rattle.vx_model.proofs.FrameOfReferenceLemmas.{row_passes}
use Rattle.vx_model.proofs.MadeLemmas.{rows_fit}
use Rattle.vx_model.proofs.PackedLemmas.{length-below, row_at-below, below-passes, passed}
use Rattle.vx_model.proofs.PatchLemmas.{ascend_parts}

-- the end of the last run, 0 where there is none
abbrev pub last_end : List PlainValue → ℕ
last_end ends = offset_at ends (length ends - 1)

pub length-run_end : (ends values : Tree) → length (rows (run_end ends values)) ≡ offset_at (rows ends) (length (rows ends) - 1)
length-run_end ends values = length-below (run_value (rows ends) (rows values)) (last_end (rows ends))

pub row_at-run_end : (ends values : Tree) (i : ℕ) → i < offset_at (rows ends) (length (rows ends) - 1) → row_at (rows (run_end ends values)) i ≡ run_value (rows ends) (rows values) i
row_at-run_end ends values i l = row_at-below (run_value (rows ends) (rows values)) (last_end (rows ends)) i l

pub ruleset run_end_reads = (length-run_end, row_at-run_end)

-- ---- ends that ascend

pub end-between : (low high : ℕ) (ends : List PlainValue) (k : ℕ) → ascend low high ends ≡ true → k < length ends → (low ≤ offset_at ends k) × (offset_at ends k < high)
end-between low high [] k e l = absurd (omega arith)
end-between low high (int (pos n) ∷ ends) zero e l = let p = ascend_parts low high n ends e in (p.0, p.1)
end-between low high (int (pos n) ∷ ends) (suc k) e l =
    let p = ascend_parts low high n ends e in
    let rest = end-between (n + 1) high ends k p.2 (omega arith) in
    (let a = rest.0 in omega arith, rest.1)
end-between low high (v ∷ ends) k e l = absurd cc

pub ends-rise : (low high : ℕ) (ends : List PlainValue) (j k : ℕ) → ascend low high ends ≡ true → j < k → k < length ends → offset_at ends j < offset_at ends k
ends-rise low high [] j k e l m = absurd (omega arith)
ends-rise low high (v ∷ ends) j zero e l m = absurd (omega arith)
ends-rise low high (int (pos n) ∷ ends) zero (suc k) e l m = let rest = end-between (n + 1) high ends k (ascend_parts low high n ends e).2 (omega arith) in let a = rest.0 in omega arith
ends-rise low high (int (pos n) ∷ ends) (suc j) (suc k) e l m = ends-rise (n + 1) high ends j k (ascend_parts low high n ends e).2 (omega arith) (omega arith)
ends-rise low high (v ∷ ends) j (suc k) e l m = absurd cc

-- the ends before a position are at most i
abbrev pub EndsBefore : List PlainValue → ℕ → ℕ → Type 0
EndsBefore ends i place = (k : ℕ) → k < place → offset_at ends k ≤ i

-- those from it on lie above i
abbrev pub EndsAbove : List PlainValue → ℕ → ℕ → Type 0
EndsAbove ends i place = (k : ℕ) → place ≤ k → k < length ends → i < offset_at ends k

pub ends_before-start : (ends : List PlainValue) (i : ℕ) → EndsBefore ends i 0
ends_before-start ends i k l = absurd (omega arith)

pub ends_above-end : (ends : List PlainValue) (i place : ℕ) → length ends ≤ place → EndsAbove ends i place
ends_above-end ends i place h k l m = absurd (omega arith)

-- where the end at a place is at most i
pub ends_before-next : (low high : ℕ) (ends : List PlainValue) (i place n : ℕ) → ascend low high ends ≡ true → place < length ends → index_of (row_at ends place) ≡ Some n → n ≤ i → EndsBefore ends i (place + 1)
ends_before-next low high ends i place n e l f m k below =
    let here : offset_at ends place ≡ n = ap (λ o. unwrap_or o 0) f in
    elim (cases_lt k place) [
      | inl less ↦ let rising = ends-rise low high ends k place e less l in omega arith
      | inr more ↦ let same : k ≡ place = omega arith in let there = ap (offset_at ends) same in omega arith
    ]

-- where it lies above i
pub ends_above-next : (low high : ℕ) (ends : List PlainValue) (i place n : ℕ) → ascend low high ends ≡ true → place < length ends → index_of (row_at ends place) ≡ Some n → i < n → EndsAbove ends i place
ends_above-next low high ends i place n e l f m k from within =
    let here : offset_at ends place ≡ n = ap (λ o. unwrap_or o 0) f in
    elim (cases_lt place k) [
      | inl less ↦ let rising = ends-rise low high ends place k e less within in omega arith
      | inr more ↦ let same : k ≡ place = omega arith in let there = ap (offset_at ends) same in omega arith
    ]

-- a row before the last end has a run
pub run-within : (ends : List PlainValue) (i place : ℕ) → EndsBefore ends i place → i < last_end ends → place < length ends
run-within [] i place b l = absurd (omega arith)
run-within (v ∷ ends) i place b l =
    elim (cases_lt place (length (v ∷ ends))) [
      | inl less ↦ less
      | inr more ↦ let last = b (length (v ∷ ends) - 1) (omega arith) in absurd (omega arith)
    ]

-- ---- the value of a row

-- an end above a row, as a natural number
pub is_behind : (v : PlainValue) (i : ℕ) → int_lt (pos i) (whole_or_zero v) ≡ nat_lt i (unwrap_or (index_of v) 0)
is_behind (int (pos n)) i = refl
is_behind (int (negsuc n)) i = sym (le-ltb i 0 (omega arith))
is_behind v i = refl

-- the value at the place of the first end above i
pub run_value-place : (ends values : List PlainValue) (i place : ℕ) → length ends ≡ length values → place < length ends → EndsBefore ends i place → i < offset_at ends place → run_value ends values i ≡ row_at values place
run_value-place [] values i place e l b a = absurd (omega arith)
run_value-place (v ∷ ends) [] i place e l b a = absurd (omega arith)
run_value-place (v ∷ ends) (w ∷ values) i zero e l b a = cond-true _ _ _ (is_behind v i ∙ lt-ltb _ _ a)
run_value-place (v ∷ ends) (w ∷ values) i (suc place) e l b a =
    cond-false _ _ _ (is_behind v i ∙ le-ltb _ _ (b 0 (omega arith))) ∙ run_value-place ends values i place (omega arith) (omega arith) (λ k m. b (suc k) (omega arith)) a

-- the same value, from the end before it alone
pub run_value-between : (low high : ℕ) (ends values : List PlainValue) (i place : ℕ) → ascend low high ends ≡ true → length ends ≡ length values → place < length ends → (0 < place → offset_at ends (place - 1) ≤ i) → i < offset_at ends place
    → run_value ends values i ≡ row_at values place
run_value-between low high ends values i place e same l b a = run_value-place ends values i place same l before a
  where
    before : EndsBefore ends i place
    before k m =
        let last = b (omega arith) in
        elim (cases_lt k (place - 1)) [
          | inl less ↦ let rising = ends-rise low high ends k (place - 1) e less (omega arith) in omega arith
          | inr more ↦ let same : k ≡ place - 1 = omega arith in let there = ap (offset_at ends) same in omega arith
        ]

-- a row of others
pub record IsRowOf (vs : List PlainValue) (v : PlainValue) : Type 0 where
  pub place : ℕ
  pub within : place < length vs
  pub is : v ≡ row_at vs place

pub row_of-passes : (p : PlainValue → Bool) (vs : List PlainValue) (v : PlainValue) → IsRowOf vs v → list_all p vs ≡ true → p v ≡ true
row_of-passes p vs v r h = ap p r.is ∙ row_passes p vs r.place r.within h

-- an end that isn't the last leaves the rows behind it to the others
pub later_end : (v : PlainValue) (ends : List PlainValue) (i : ℕ) → unwrap_or (index_of v) 0 ≤ i → i < last_end (v ∷ ends) → i < last_end ends
later_end v [] i h l = absurd (omega arith)
later_end v (w ∷ ends) i h l =
    let next : length (v ∷ w ∷ ends) - 1 ≡ suc (length (w ∷ ends) - 1) = omega arith in
    let same = ap (offset_at (v ∷ w ∷ ends)) next in
    omega arith

-- each row before the last end is a row of the values
pub run_value-some : (ends values : List PlainValue) (i : ℕ) → length ends ≡ length values → i < last_end ends → IsRowOf values (run_value ends values i)
run_value-some [] values i e l = absurd (omega arith)
run_value-some (v ∷ ends) [] i e l = absurd (omega arith)
run_value-some (v ∷ ends) (w ∷ values) i e l = pick (int_lt (pos i) (whole_or_zero v)) refl (λ later. run_value-some ends values i (omega arith) later)
  where
    pick : (b : Bool) → int_lt (pos i) (whole_or_zero v) ≡ b → (i < last_end ends → IsRowOf values (run_value ends values i)) → IsRowOf (w ∷ values) (cond b w (run_value ends values i))
    pick true t others = record { place = 0; within = omega arith; is = refl }
    pick false t others =
        let rest = others (later_end v ends i (ltb-false _ _ (sym (is_behind v i) ∙ t)) l) in
        record { place = suc rest.place; within = let a = rest.within in omega arith; is = rest.is }

-- ---- a constructor's tree is well formed, where nothing is refused

pub run_end_accepted : (ends values : Tree) → run_end_refusal ends values ≡ None → WellFormed ends → WellFormed values → WellFormed (run_end ends values)
run_end_accepted ends values h w u =
    let typed = passed _ _ _ h in
    let lengths = passed _ _ _ typed.1 in
    let rising = passed _ _ _ lengths.1 in
    let of_ends = and_parts _ _ typed.0 in
    let of_values = and_parts _ _ of_ends.1 in
    let same = eqb-true (length (rows ends)) (length (rows values)) lengths.0 in (
      w,
      u,
      record { ends_type = of_ends.0; not_null = not-true _ of_values.0; values_type = of_values.1; lengths = same; rising = rising.0 },
      below-passes (fits (tree_type values)) (run_value (rows ends) (rows values)) (last_end (rows ends))
          (λ i l. row_of-passes (fits (tree_type values)) (rows values) (run_value (rows ends) (rows values) i) (run_value-some (rows ends) (rows values) i same l) (rows_fit values u)),
    )

-- ---- the runs of a node

module _ (ends values : Tree) (h : WellFormed (run_end ends values)) where
  -- there are fewer rows than 64 bits count
  pub few-run_end : length (rows (run_end ends values)) < 2 ^ 64
  few-run_end = rw (length-run_end ends values) (few (rows ends) h.2.rising)
    where
      few : (vs : List PlainValue) → ascend 1 (2 ^ 64) vs ≡ true → last_end vs < 2 ^ 64
      few [] e = omega arith
      few (v ∷ vs) e = (end-between 1 (2 ^ 64) (v ∷ vs) (length (v ∷ vs) - 1) e (omega arith)).1

  -- the row between two ends is the value at the place of the second
  pub row_at-run : (i place : ℕ) → place < length (rows ends) → (0 < place → offset_at (rows ends) (place - 1) ≤ i) → i < offset_at (rows ends) place → row_at (rows (run_end ends values)) i ≡ row_at (rows values) place
  row_at-run i place l b a =
      let own : offset_at (rows ends) place ≤ last_end (rows ends) =
      elim (cases_lt place (length (rows ends) - 1)) [
        | inl less ↦ let rising = ends-rise 1 (2 ^ 64) (rows ends) place (length (rows ends) - 1) h.2.rising less (omega arith) in omega arith
        | inr more ↦ let same : place ≡ length (rows ends) - 1 = omega arith in let there = ap (offset_at (rows ends)) same in omega arith
      ] in
      row_at-run_end ends values i (omega arith) ∙ run_value-between 1 (2 ^ 64) (rows ends) (rows values) i place h.2.rising h.2.lengths l b a

pub ruleset run_steps = (ends_before-start, ends_above-end, ends_before-next, ends_above-next, run-within)
