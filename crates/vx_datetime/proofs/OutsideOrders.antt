-- The order of an integer and a number that its type doesn't hold: that of 0 and the number.
use Rattle.std.proofs.Common.{◌≡◌, ◌<◌, ◌≤◌, ◌∙◌, ◌^◌, ℕ, ℤ, pos, negsuc, true, false, List, of_z, refl, subst, sym, to_z, ap, arith}
use Rattle.std.specs.Int.{w128}
use Rattle.std.specs.Prelude.{◌&&◌, FitsSigned, nat_lt}
use Rattle.std.specs.declared.cmp.Ordering.{Ordering}
use Rattle.std.specs.declared.cmp.Ordering.TheVariants.{Less, Greater}
use Rattle.std.specs.Cmp.{int_cmp_is}
use Rattle.std.specs.Ordering.{int_cmp, ordering_then}
use Rattle.std.proofs.lemmas.Bool.{and_parts, ltb-false, ltb-true}
use Rattle.std.proofs.lemmas.Int.{ints, to_z-of_z}
use Rattle.vx_base.specs.declared.ptype.PType.{PType}
use Rattle.vx_base.specs.Integers.{is_signed, lies_in, natural_bits}
use Rattle.vx_datetime.specs.Orders.{AreOrdered, order_in, refined_at, whole_in}
use Rattle.vx_datetime.proofs.Refinings.{by-same}

module _ (k : PType) where
  -- of a number above the type's range
  above : (x : ℤ) (n : ℕ) → lies_in k x ≡ true → nat_lt n (2 ^ natural_bits k) ≡ false → int_cmp (pos 0) (pos n) ≡ int_cmp x (pos n)
  above (pos m) n h e =
      let small = ltb-true m (2 ^ natural_bits k) h in
      let great = ltb-false n (2 ^ natural_bits k) e in
      sym (int_cmp_is (pos 0) (pos n) Less (omega (arith, ints))) ∙ int_cmp_is (pos m) (pos n) Less (omega (arith, ints))
  above (negsuc m) n h e =
      let small = ltb-true m (2 ^ natural_bits k) (and_parts (is_signed k) (nat_lt m (2 ^ natural_bits k)) h).1 in
      let great = ltb-false n (2 ^ natural_bits k) e in
      sym (int_cmp_is (pos 0) (pos n) Less (omega (arith, ints))) ∙ int_cmp_is (negsuc m) (pos n) Less (omega (arith, ints))

  -- of a number below it
  beneath : (x : ℤ) (n : ℕ) → lies_in k x ≡ true → lies_in k (negsuc n) ≡ false → int_cmp (pos 0) (negsuc n) ≡ int_cmp x (negsuc n)
  beneath (pos m) n h e = sym (int_cmp_is (pos 0) (negsuc n) Greater (omega (arith, ints))) ∙ int_cmp_is (pos m) (negsuc n) Greater (omega (arith, ints))
  beneath (negsuc m) n h e =
      let parts = and_parts (is_signed k) (nat_lt m (2 ^ natural_bits k)) h in
      let small = ltb-true m (2 ^ natural_bits k) parts.1 in
      let great = ltb-false n (2 ^ natural_bits k) (ap (λ s. s && nat_lt n (2 ^ natural_bits k)) (sym parts.0) ∙ e) in
      sym (int_cmp_is (pos 0) (negsuc n) Greater (omega (arith, ints))) ∙ int_cmp_is (negsuc m) (negsuc n) Greater (omega (arith, ints))

  outside : (x w : ℤ) → lies_in k x ≡ true → lies_in k w ≡ false → int_cmp (pos 0) w ≡ int_cmp x w
  outside x (pos n) h e = above x n h e
  outside x (negsuc n) h e = beneath x n h e

  -- and of each row
  pub all-outside : (orders new : List Ordering) (xs : List ℤ) (w : ℤ) (start end : ℕ) → ((i : ℕ) → start ≤ i → i < end → lies_in k (whole_in xs i) ≡ true) → lies_in k w ≡ false
      → AreOrdered (λ i. ordering_then (order_in orders i) (int_cmp (pos 0) w)) orders new start end → AreOrdered (refined_at orders xs (λ i. w)) orders new start end
  all-outside orders new xs w start end h e made =
      by-same (λ i. ordering_then (order_in orders i) (int_cmp (pos 0) w)) orders new start end made (refined_at orders xs (λ i. w))
      (λ i s b. ap (ordering_then (order_in orders i)) (outside (whole_in xs i) w (h i s b) e))

-- orders by a number that a call was handed as a machine word: the word's number is the number that it was made of
pub held-word : (orders new : List Ordering) (w : ℤ) (zs ws : List ℤ) (start end : ℕ) → FitsSigned w128 w → zs ≡ ws → AreOrdered (refined_at orders zs (λ i. to_z w128 (of_z w128 w))) orders new start end → AreOrdered (refined_at orders ws (λ i. w)) orders new start end
held-word orders new w zs ws start end h e = subst (λ f. AreOrdered f orders new start end) (λ i. refined_at orders (e i) (λ j. to_z-of_z w128 w h i))

pub from-word : (orders new : List Ordering) (w : ℤ) (zs : List ℤ) (start end : ℕ) → FitsSigned w128 w → AreOrdered (refined_at orders zs (λ i. to_z w128 (of_z w128 w))) orders new start end → AreOrdered (refined_at orders zs (λ i. w)) orders new start end
from-word orders new w zs start end h = held-word orders new w zs zs start end h refl

-- orders by another list
pub by-lists : (orders new : List Ordering) (zs ws us vs : List ℤ) (start end : ℕ) → zs ≡ ws → us ≡ vs → AreOrdered (refined_at orders zs (whole_in us)) orders new start end → AreOrdered (refined_at orders ws (whole_in vs)) orders new start end
by-lists orders new zs ws us vs start end e d = subst (λ f. AreOrdered f orders new start end) (λ i. refined_at orders (e i) (whole_in (d i)))
