-- A whole number as the difference of two natural numbers, of which one is 0.
use Rattle.std.specs.Prelude.{ℕ, suc, ℤ, pos, negsuc}
use Rattle.vx_base.specs.PlainValue.{PlainValue}
use Rattle.vx_rules.specs.Aggregates.{summand}

-- the number itself where it isn't negative, else 0
abbrev pub positive : ℤ → ℕ
positive (pos n) = n
positive (negsuc n) = 0

-- its magnitude where it is negative, else 0
abbrev pub negative : ℤ → ℕ
negative (pos n) = 0
negative (negsuc n) = suc n

-- what a value adds to the positive part of a sum
abbrev pub ups : PlainValue → ℕ
ups v = positive (summand v)

-- what it adds to the negative part
abbrev pub downs : PlainValue → ℕ
downs v = negative (summand v)
