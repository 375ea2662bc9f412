-- What the test of canonical parts says, and the order of their sums.
use Rattle.std.proofs.Common.{◌≡◌, ℕ, ◌<◌, nat_lt, true, ◌&&◌, ℤ, pos, negsuc, ◌+ℤ◌, ◌*ℤ◌, ◌≤ℤ◌, ◌<ℤ◌, ◌⊎◌, inl, inr, ap, sym, ◌∙◌, refl, arith, unsigned_abs, int_lt}
use Rattle.std.proofs.lemmas.Bool.{and_parts, ltb-true}
use Rattle.std.proofs.lemmas.Int.{ints}
use Rattle.std.specs.declared.cmp.Ordering.{Ordering}
use Rattle.std.specs.declared.cmp.Ordering.TheVariants.{Less, Equal, Greater}
use Rattle.std.specs.Ordering.{int_cmp, ordering_then}
use Rattle.vx_base.specs.declared.ptype.PType.TheVariants.{I64}
use Rattle.vx_base.specs.Integers.{lies_in}
use Rattle.vx_time.specs.CanonicalParts.{is_canonical, share_sign, parts_cmp}
use Rattle.vx_time.specs.declared.parts.TimestampParts.{TimestampParts}
use Rattle.vx_time.specs.PartsOf.{parts, sum_of}
use Rattle.vx_time.proofs.Places.{IsPlace, int_cmp-places, int_cmp-equal, same_where_equal}
use Rattle.vx_time.proofs.Products.{add-mul_whole, mul_assoc_whole}

-- the test, part by part
pub record IsCanonical (d : ℤ) (p : TimestampParts) : Type 0 where
  pub sign : ((pos 0 ≤ℤ p.days) × (pos 0 ≤ℤ p.seconds) × (pos 0 ≤ℤ p.subseconds)) ⊎ ((p.days ≤ℤ pos 0) × (p.seconds ≤ℤ pos 0) × (p.subseconds ≤ℤ pos 0))
  pub seconds : unsigned_abs p.seconds < 86_400
  pub subseconds : pos (unsigned_abs p.subseconds) <ℤ d
  pub held : lies_in I64 (sum_of d p) ≡ true

signs : (p : TimestampParts) → share_sign p ≡ true → ((pos 0 ≤ℤ p.days) × (pos 0 ≤ℤ p.seconds) × (pos 0 ≤ℤ p.subseconds)) ⊎ ((p.days ≤ℤ pos 0) × (p.seconds ≤ℤ pos 0) × (p.subseconds ≤ℤ pos 0))
signs p e = grind (arith, ints)

pub canonical_out : (d : ℤ) (p : TimestampParts) → is_canonical d p ≡ true → IsCanonical d p
canonical_out d p e =
    let all = and_parts (share_sign p && nat_lt (unsigned_abs p.seconds) 86_400 && int_lt (pos (unsigned_abs p.subseconds)) d) (lies_in I64 (sum_of d p)) e in
    let three = and_parts (share_sign p && nat_lt (unsigned_abs p.seconds) 86_400) (int_lt (pos (unsigned_abs p.subseconds)) d) all.0 in
    let two = and_parts (share_sign p) (nat_lt (unsigned_abs p.seconds) 86_400) three.0 in
    let less = three.1 in
    record {
      sign = signs p two.0;
      seconds = ltb-true (unsigned_abs p.seconds) 86_400 two.1;
      subseconds = grind (arith, ints, less);
      held = all.1;
    }

-- d is positive, since |subseconds| < d
pub canonical_positive : (d : ℤ) (p : TimestampParts) → IsCanonical d p → pos 0 <ℤ d
canonical_positive d p h = let k = h.subseconds in omega (arith, ints)

-- ---- the order

sum_of-places : (k : ℕ) (p : TimestampParts) → sum_of (pos k) p ≡ (p.days *ℤ pos 86_400 +ℤ p.seconds) *ℤ pos k +ℤ p.subseconds
sum_of-places k p = ap (λ x. x +ℤ p.subseconds) (sym (add-mul_whole (p.days *ℤ pos 86_400) p.seconds k ∙ ap (λ x. x +ℤ p.seconds *ℤ pos k) (mul_assoc_whole p.days 86_400 k)))

clock_place : (d : ℤ) (p : TimestampParts) → IsCanonical d p → IsPlace 86_400 p.days p.seconds
clock_place d p h = record {
  small = h.seconds;
  sign = elim h.sign [ inl s ↦ inl (s.0, s.1) | inr s ↦ inr (s.0, s.1) ];
}

whole_negative : (a b : ℤ) → pos 0 ≤ℤ a → pos 0 ≤ℤ b → pos 0 ≤ℤ (a *ℤ pos 86_400 +ℤ b)
whole_negative a b p q = omega (arith, ints)

whole_positive : (a b : ℤ) → a ≤ℤ pos 0 → b ≤ℤ pos 0 → (a *ℤ pos 86_400 +ℤ b) ≤ℤ pos 0
whole_positive a b p q = omega (arith, ints)

unit_place : (k : ℕ) (p : TimestampParts) → IsCanonical (pos k) p → IsPlace k (p.days *ℤ pos 86_400 +ℤ p.seconds) p.subseconds
unit_place k p h = let s = h.subseconds in record {
  small = omega (arith, ints);
  sign = elim h.sign [ inl s ↦ inl (whole_negative p.days p.seconds s.0 s.1, s.2) | inr s ↦ inr (whole_positive p.days p.seconds s.0 s.1, s.2) ];
}

ordering_then_assoc : (a b c : Ordering) → ordering_then (ordering_then a b) c ≡ ordering_then a (ordering_then b c)
ordering_then_assoc Less b c = refl
ordering_then_assoc Equal b c = refl
ordering_then_assoc Greater b c = refl

order : (k : ℕ) (p q : TimestampParts) → IsCanonical (pos k) p → IsCanonical (pos k) q → parts_cmp p q ≡ int_cmp (sum_of (pos k) p) (sum_of (pos k) q)
order k p q h j =
    sym ((λ i. int_cmp (sum_of-places k p i) (sum_of-places k q i))
    ∙ int_cmp-places k _ p.subseconds _ q.subseconds (unit_place k p h) (unit_place k q j)
    ∙ ap (λ o. ordering_then o (int_cmp p.subseconds q.subseconds)) (int_cmp-places 86_400 p.days p.seconds q.days q.seconds (clock_place (pos k) p h) (clock_place (pos k) q j))
    ∙ ordering_then_assoc (int_cmp p.days q.days) (int_cmp p.seconds q.seconds) (int_cmp p.subseconds q.subseconds))

pub parts_cmp-sum_of : (d : ℤ) (p q : TimestampParts) → IsCanonical d p → IsCanonical d q → parts_cmp p q ≡ int_cmp (sum_of d p) (sum_of d q)
parts_cmp-sum_of (pos k) p q h j = order k p q h j
parts_cmp-sum_of (negsuc k) p q h j = absurd (canonical_positive (negsuc k) p h).lt

-- ---- the split of the sum

both_equal : (a b : Ordering) → ordering_then a b ≡ Equal → (a ≡ Equal) × (b ≡ Equal)
both_equal Less b e = absurd cc
both_equal Equal b e = (refl, e)
both_equal Greater b e = absurd cc

same_parts : (p q : TimestampParts) → parts_cmp p q ≡ Equal → p ≡ q
same_parts p q e =
    let days = both_equal (int_cmp p.days q.days) _ e in
    let clock = both_equal (int_cmp p.seconds q.seconds) _ days.1 in
    λ i. parts (same_where_equal p.days q.days days.0 i) (same_where_equal p.seconds q.seconds clock.0 i) (same_where_equal p.subseconds q.subseconds clock.1 i)

-- canonical parts with one sum are one
pub same_where_sum : (d : ℤ) (p q : TimestampParts) → IsCanonical d p → IsCanonical d q → sum_of d p ≡ sum_of d q → p ≡ q
same_where_sum d p q h j e = same_parts p q (parts_cmp-sum_of d p q h j ∙ int_cmp-equal (sum_of d p) (sum_of d q) e)
