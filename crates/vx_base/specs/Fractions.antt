-- Fractions of natural numbers, compared by cross-multiplication.
use Rattle.std.specs.Prelude.{ℕ, ◌*◌, nat_lt, Bool, ◌==◌}
use Rattle.std.specs.Ordering.{nat_cmp}
use Rattle.std.specs.declared.cmp.Ordering.{Ordering}
use Rattle.vx_base.specs.declared.fraction.Fraction.{Fraction}

-- as it was given: fractions are not reduced
abbrev pub numerator : Fraction → ℕ
numerator x = x.num

-- as it was given, and never 0
abbrev pub divisor : Fraction → ℕ
divisor x = x.den

-- a * d, for a/b and c/d
abbrev pub cross : Fraction → Fraction → ℕ
cross x y = x.num * y.den

-- a/b < c/d exactly where a * d < c * b
abbrev pub is_less : Fraction → Fraction → Bool
is_less x y = nat_lt (cross x y) (cross y x)

-- a/b = c/d exactly where a * d = c * b
abbrev pub same_fraction : Fraction → Fraction → Bool
same_fraction x y = cross x y == cross y x

-- the order by value
abbrev pub fraction_cmp : Fraction → Fraction → Ordering
fraction_cmp x y = nat_cmp (cross x y) (cross y x)

-- whether the value is greater than one
abbrev pub is_above_one : Fraction → Bool
is_above_one x = nat_lt x.den x.num
