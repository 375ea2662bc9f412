-- The majority vote of Boyer and Moore: the number that more than half of the numbers are, if there is one.
use Rattle.std.specs.Prelude.{◌≡◌, ℕ, ◌+◌, ◌-◌, ◌*◌, ◌≤◌, ◌==◌, ℤ, pos, if◌then◌else◌, List, fold}
use Rattle.std.specs.Ordering.{int_eq}
use Rattle.vx_base.specs.PlainValue.{PlainValue}
use Rattle.vx_stats.specs.Stats.{value_count, most_frequent}

-- the leader and its lead after one more vote; a leader whose lead is 0 is replaced
abbrev pub after_vote : ℤ × ℕ → ℤ → ℤ × ℕ
after_vote leader z = if leader.1 == 0 then (z, 1) else (if int_eq leader.0 z then (leader.0, leader.1 + 1) else (leader.0, leader.1 - 1))

-- the leader at the end
abbrev pub winner : List ℤ → ℤ
winner zs = (fold after_vote (pos 0, 0) zs).0

-- a count for the verdict: at most the greatest count of a value, and equal to it where 9 of 10 values are one
pub record CountsMost (values : List PlainValue) (count : ℕ) : Type 0 where
  pub few : count ≤ (most_frequent values).1
  pub most : 9 * value_count values ≤ 10 * (most_frequent values).1 → count ≡ (most_frequent values).1
