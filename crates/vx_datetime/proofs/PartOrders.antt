-- Orders that are refined by three parts, from Equal on: those of the parts.
use Rattle.std.proofs.Common.{◌≡◌, ◌<◌, ◌≤◌, ◌∙◌, ℕ, zero, suc, ℤ, false, List, replicate, refl, ap}
use Rattle.std.specs.declared.cmp.Ordering.{Ordering}
use Rattle.std.specs.declared.cmp.Ordering.TheVariants.{Less, Equal, Greater}
use Rattle.std.specs.Ordering.{int_cmp, is_eq, ordering_then}
use Rattle.vx_datetime.specs.Moments.{parts_at}
use Rattle.vx_datetime.specs.Orders.{AreOrdered, order_in, refined_at, whole_in}
use Rattle.vx_time.specs.CanonicalParts.{parts_cmp}
use Rattle.vx_time.specs.declared.parts.TimestampParts.{TimestampParts}

then-assoc : (a b c : Ordering) → ordering_then (ordering_then a b) c ≡ ordering_then a (ordering_then b c)
then-assoc Less b c = refl
then-assoc Equal b c = refl
then-assoc Greater b c = refl

-- an order that isn't Equal is the end
ended : (a b : Ordering) → is_eq a ≡ false → a ≡ ordering_then a b
ended Less b e = refl
ended Equal b e = absurd cc
ended Greater b e = refl

pub all-equal : (n i : ℕ) → order_in (replicate n Equal) i ≡ Equal
all-equal zero i = refl
all-equal (suc n) zero = refl
all-equal (suc n) (suc i) = all-equal n i

-- the rows of a block, from Equal on
module _ (xs ys zs : List ℤ) (q : ℕ → TimestampParts) (start end : ℕ) (old one : List Ordering) (equal : (i : ℕ) → start ≤ i → order_in old i ≡ Equal)
    (days : AreOrdered (refined_at old xs (λ i. (q i).days)) old one start end) where
  by-days : (i : ℕ) → start ≤ i → i < end → order_in one i ≡ int_cmp (whole_in xs i) (q i).days
  by-days i s b = days.within i s b ∙ ap (λ o. ordering_then o (int_cmp (whole_in xs i) (q i).days)) (equal i s)

  -- where no days are equal
  pub days-alone : ((i : ℕ) → start ≤ i → i < end → is_eq (order_in one i) ≡ false) → AreOrdered (λ i. parts_cmp (parts_at xs ys zs i) (q i)) old one start end
  days-alone differ = record {
    long = days.long;
    within = λ i s b. ended (order_in one i) (ordering_then (int_cmp (whole_in ys i) (q i).seconds) (int_cmp (whole_in zs i) (q i).subseconds)) (differ i s b)
        ∙ ap (λ o. ordering_then o (ordering_then (int_cmp (whole_in ys i) (q i).seconds) (int_cmp (whole_in zs i) (q i).subseconds))) (by-days i s b);
    before = days.before;
    after = days.after;
  }

  pub all-parts : (two three : List Ordering) → AreOrdered (refined_at one ys (λ i. (q i).seconds)) one two start end → AreOrdered (refined_at two zs (λ i. (q i).subseconds)) two three start end
      → AreOrdered (λ i. parts_cmp (parts_at xs ys zs i) (q i)) old three start end
  all-parts two three seconds subseconds = record {
    long = subseconds.long ∙ seconds.long ∙ days.long;
    within = λ i s b.
        let d = int_cmp (whole_in xs i) (q i).days in
        let e = int_cmp (whole_in ys i) (q i).seconds in
        let u = int_cmp (whole_in zs i) (q i).subseconds in
        let second : order_in two i ≡ ordering_then d e = seconds.within i s b ∙ ap (λ o. ordering_then o e) (by-days i s b) in
        subseconds.within i s b ∙ ap (λ o. ordering_then o u) second ∙ then-assoc d e u;
    before = λ i k. subseconds.before i k ∙ seconds.before i k ∙ days.before i k;
    after = λ i k. subseconds.after i k ∙ seconds.after i k ∙ days.after i k;
  }
