-- Rows that ascend are whole numbers, whatever other values there are.
use Rattle.std.proofs.Common.{◌≡◌, ◌<◌, ◌≤◌, ◌+◌, ℕ, pos, List, [], ◌∷◌, true}
use Rattle.vx_base.specs.PlainValue.{PlainValue, int}
use Rattle.vx_model.specs.WellFormed.{ascend}
use Rattle.vx_model.proofs.PatchLemmas.{ascend_parts}

-- induction over rows that ascend
pub by_ascent : (high : ℕ) (P : ℕ → List PlainValue → Type 0) → ((low : ℕ) → P low [])
    → ((low n : ℕ) (is : List PlainValue) → low ≤ n → n < high → ascend (n + 1) high is ≡ true → P (n + 1) is → P low (int (pos n) ∷ is)) → (low : ℕ) (is : List PlainValue) → ascend low high is ≡ true → P low is
by_ascent high P none more low [] e = none low
by_ascent high P none more low (int (pos n) ∷ is) e = let p = ascend_parts low high n is e in more low n is p.0 p.1 p.2 (by_ascent high P none more (n + 1) is p.2)
by_ascent high P none more low (v ∷ is) e = absurd cc
