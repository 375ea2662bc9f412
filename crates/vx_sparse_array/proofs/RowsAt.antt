-- Rows of a tree by their numbers: they fit its type, and are ranges of one row.
use Rattle.std.proofs.Common.{◌≡◌, ◌<◌, ◌+◌, ◌-◌, ◌∙◌, ℕ, zero, suc, true, Bool, List, [], ◌∷◌, ◌++◌, length, map, take, drop, get_or, refl, ap, arith}
use Rattle.std.specs.Prelude.{nat_lt}
use Rattle.std.specs.List.{list_all}
use Rattle.std.proofs.lemmas.Bool.{and_from, and_parts, ltb-true, le-leb}
use Rattle.vx_base.specs.Gathered.{gathered, are_parts}
use Rattle.vx_base.specs.PlainScalar.{fits}
use Rattle.vx_base.specs.PlainValue.{PlainValue}
use Rattle.vx_model.specs.Rows.{rows, row_at}
use Rattle.vx_model.specs.Tree.{Tree}
use Rattle.vx_model.specs.TreeType.{tree_type}
use Rattle.vx_model.specs.WellFormed.{WellFormed}
use Rattle.vx_model.proofs.FrameOfReferenceLemmas.{row_passes}
use Rattle.vx_model.proofs.MadeLemmas.{rows_fit}

all_at : (p : PlainValue → Bool) (vs : List PlainValue) (numbers : List ℕ) → list_all p vs ≡ true → list_all (λ k. nat_lt k (length vs)) numbers ≡ true → list_all p (map (row_at vs) numbers) ≡ true
all_at p vs [] h l = refl
all_at p vs (k ∷ numbers) h l =
    let b = and_parts (nat_lt k (length vs)) (list_all (λ j. nat_lt j (length vs)) numbers) l in
    and_from _ _ (row_passes p vs k (ltb-true k (length vs) b.0) h) (all_at p vs numbers h b.1)

pub at-fit : (t : Tree) (numbers : List ℕ) → WellFormed t → list_all (λ row. nat_lt row (length (rows t))) numbers ≡ true → list_all (fits (tree_type t)) (map (row_at (rows t)) numbers) ≡ true
at-fit t numbers w l = all_at (fits (tree_type t)) (rows t) numbers (rows_fit t w) l

pub ruleset fit_at = (at-fit)

-- ---- each row as a range of its own

pub below_at : (n : ℕ) (numbers : List ℕ) (i : ℕ) → i < length numbers → list_all (λ k. nat_lt k n) numbers ≡ true → get_or numbers i 0 < n
below_at n [] i l h = absurd (omega arith)
below_at n (k ∷ numbers) zero l h = ltb-true k n (and_parts (nat_lt k n) (list_all (λ j. nat_lt j n) numbers) h).0
below_at n (k ∷ numbers) (suc i) l h = below_at n numbers i (omega arith) (and_parts (nat_lt k n) (list_all (λ j. nat_lt j n) numbers) h).1

one_row : (vs : List PlainValue) (k : ℕ) → k < length vs → take 1 (drop k vs) ≡ row_at vs k ∷ []
one_row [] k l = absurd (omega arith)
one_row (v ∷ vs) zero l = refl
one_row (v ∷ vs) (suc k) l = one_row vs k (omega arith)

pub single-parts : (n : ℕ) (numbers : List ℕ) → list_all (λ k. nat_lt k n) numbers ≡ true → are_parts n (map (λ k. (k, k + 1)) numbers) ≡ true
single-parts n [] h = refl
single-parts n (k ∷ numbers) h =
    let b = and_parts (nat_lt k n) (list_all (λ j. nat_lt j n) numbers) h in
    let below = ltb-true k n b.0 in
    and_from _ _ (and_from _ _ (le-leb k (k + 1) (omega arith)) (le-leb (k + 1) n (omega arith))) (single-parts n numbers b.1)

pub single-gathered : (vs : List PlainValue) (numbers : List ℕ) → list_all (λ k. nat_lt k (length vs)) numbers ≡ true → gathered (map (λ k. (k, k + 1)) numbers) vs ≡ map (row_at vs) numbers
single-gathered vs [] h = refl
single-gathered vs (k ∷ numbers) h =
    let b = and_parts (nat_lt k (length vs)) (list_all (λ j. nat_lt j (length vs)) numbers) h in
    let one : k + 1 - k ≡ 1 = omega arith in
    let rest = single-gathered vs numbers b.1 in
    let first = ap (λ n. take n (drop k vs)) one ∙ one_row vs k (ltb-true k (length vs) b.0) in
    λ i. first i ++ rest i

pub ruleset single_rows = (single-parts, single-gathered)
