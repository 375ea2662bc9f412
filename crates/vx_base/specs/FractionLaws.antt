-- The order of fractions is total and agrees with their equality and with `is_less`: all three cross-multiply.
use Rattle.std.specs.Prelude.{◌≡◌, ℕ, ◌*◌, ◌<◌, Bool, true, false, cond, refl}
use Rattle.std.proofs.Common.{ap, sym, subst, ◌∙◌, mul_right_comm, mul-lt-mul_of_pos_right}
use Rattle.std.proofs.lemmas.Cmp.{nat_cmp_total, ranked, eq_by_cmp_equiv}
use Rattle.std.specs.Cmp.{IsEquivalence, IsTotalOrder, IsPartialOrder, unsigned_ties, one_rank, below_irrefl, below_chain, po}
use Rattle.std.specs.Ordering.{MatchOrdering, nat_cmp, eq_by_cmp, as_partial_cmp, is_lt}
use Rattle.std.specs.declared.cmp.Ordering.{Ordering}
use Rattle.std.specs.declared.cmp.Ordering.TheVariants.{Less, Equal, Greater}
use Rattle.vx_base.specs.declared.fraction.Fraction.{Fraction}
use Rattle.vx_base.specs.Fractions.{cross, is_less, same_fraction, fraction_cmp}

scaled : (m n k : ℕ) → 0 < k → (r : Ordering) → MatchOrdering r (m < n) (m ≡ n) (n < m) → MatchOrdering r (m * k < n * k) (m * k ≡ n * k) (n * k < m * k)
scaled m n k p Less h = mul-lt-mul_of_pos_right h p
scaled m n k p Equal h = ap (λ w. w * k) h
scaled m n k p Greater h = mul-lt-mul_of_pos_right h p

-- a positive factor on both sides keeps the order
nat_cmp-scaled : (m n k : ℕ) → 0 < k → nat_cmp m n ≡ nat_cmp (m * k) (n * k)
nat_cmp-scaled m n k p =
    one_rank (λ (x y : ℕ). x < y) below_irrefl below_chain (m * k) (n * k) (nat_cmp m n) (nat_cmp (m * k) (n * k))
    (scaled m n k p (nat_cmp m n) (ranked m n (nat_cmp m n) refl)) (ranked (m * k) (n * k) (nat_cmp (m * k) (n * k)) refl)

-- how x and z compare, with the factors of all three on both sides
through : (x y z : Fraction) → fraction_cmp x z ≡ nat_cmp (cross x y * z.den) (cross z y * x.den)
through x y z =
    nat_cmp-scaled (cross x z) (cross z x) y.den y.positive ∙
    (λ i. nat_cmp (mul_right_comm x.num z.den y.den i) (mul_right_comm z.num x.den y.den i))

-- how x and y compare, in those factors
before : (x y z : Fraction) → fraction_cmp x y ≡ nat_cmp (cross x y * z.den) (cross y z * x.den)
before x y z =
    nat_cmp-scaled (cross x y) (cross y x) z.den z.positive ∙
    ap (nat_cmp (cross x y * z.den)) (mul_right_comm y.num x.den z.den)

-- how y and z compare, in those factors
after : (x y z : Fraction) → fraction_cmp y z ≡ nat_cmp (cross y z * x.den) (cross z y * x.den)
after x y z = nat_cmp-scaled (cross y z) (cross z y) x.den x.positive

pub fraction_cmp_total : IsTotalOrder fraction_cmp
fraction_cmp_total = record {
  antisymm = λ x y. nat_cmp_total.antisymm (cross x y) (cross y x);
  trans = λ x y z p q. through x y z ∙ nat_cmp_total.trans (cross x y * z.den) (cross y z * x.den) (cross z y * x.den) (sym (before x y z) ∙ p) (sym (after x y z) ∙ q);
  congr = λ x y z p. through x y z ∙ nat_cmp_total.congr (cross x y * z.den) (cross y z * x.den) (cross z y * x.den) (sym (before x y z) ∙ p) ∙ sym (after x y z);
}

-- fractions are equal exactly where the order answers Equal
pub same_fraction-cmp : (x y : Fraction) → same_fraction x y ≡ eq_by_cmp fraction_cmp x y
same_fraction-cmp x y = unsigned_ties (cross x y) (cross y x)

pub same_fraction_equivalence : IsEquivalence same_fraction
same_fraction_equivalence = subst IsEquivalence (λ i x y. sym (same_fraction-cmp x y) i) (eq_by_cmp_equiv fraction_cmp_total)

pub fraction_cmp_partial : IsPartialOrder same_fraction (as_partial_cmp fraction_cmp)
fraction_cmp_partial = po fraction_cmp_total same_fraction-cmp

is_lt-tested : (less same : Bool) → is_lt (cond less Less (cond same Equal Greater)) ≡ less
is_lt-tested true same = refl
is_lt-tested false true = refl
is_lt-tested false false = refl

-- the order answers Less exactly where `is_less` holds
pub is_lt-fraction_cmp : (x y : Fraction) → is_lt (fraction_cmp x y) ≡ is_less x y
is_lt-fraction_cmp x y = is_lt-tested (is_less x y) (same_fraction x y)
