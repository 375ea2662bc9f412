-- Orders of which some rows are set, row by row and block by block.
use Rattle.std.proofs.Common.{◌≡◌, ◌<◌, ◌≤◌, ◌≢◌, ◌∙◌, ◌+◌, ℕ, Bool, true, false, List, length, get_or, set, refl, sym, ap, arith, get_or-set_other, get_or-set_same, length-set}
use Rattle.std.specs.Prelude.{nat_lt}
use Rattle.std.specs.declared.cmp.Ordering.{Ordering}
use Rattle.std.specs.declared.cmp.Ordering.TheVariants.{Less, Equal}
use Rattle.std.proofs.lemmas.Bool.{ltb-false, ltb-true}
use Rattle.std.proofs.lemmas.List.{ext_get_or, get_or_default}
use Rattle.std.proofs.lemmas.List.FromFn.{get_or-map-range_with_len, length-map-range_with_len}
use Rattle.vx_model.specs.Rows.{below}
use Rattle.vx_datetime.specs.Orders.{AreOrdered, order_in}

-- equal rows make equal lists
pub below-same : {A : Type 0} (f g : ℕ → A) (n : ℕ) → ((i : ℕ) → i < n → f i ≡ g i) → below f n ≡ below g n
below-same f g n h =
    let size = length-map-range_with_len f 0 n in
    ext_get_or (f 0) (below f n) (below g n) (size ∙ sym (length-map-range_with_len g 0 n))
    (λ i b. let within : i < n = omega (arith, size, b) in get_or-map-range_with_len f 0 n i i (f 0) within (omega arith) ∙ h i within ∙ sym (get_or-map-range_with_len g 0 n i i (f 0) within (omega arith)))

-- in front of a row, or from it on
pub in-front-or : {P : Type 0} (i n : ℕ) → (i < n → P) → (n ≤ i → P) → P
in-front-or {P} i n f g = by_test (nat_lt i n) refl
  where
    by_test : (b : Bool) → nat_lt i n ≡ b → P
    by_test true e = f (ltb-true i n e)
    by_test false e = g (ltb-false i n e)

-- no row is set yet
pub none-set : (f : ℕ → Ordering) (old : List Ordering) (start : ℕ) → AreOrdered f old old start start
none-set f old start = record { long = refl; within = λ i h k. absurd (omega (arith, h, k)); before = λ i h. refl; after = λ i h. refl }

module _ (f : ℕ → Ordering) (old now : List Ordering) (start n : ℕ) (so_far : AreOrdered f old now start n) where
  -- the next row is as it was, whatever stands for rows out of bounds
  pub next-row : n < length old → get_or now n Less ≡ order_in old n
  next-row h = get_or_default now n Less Equal (omega (arith, so_far.long, h)) ∙ so_far.after n (omega arith)

  -- one row more
  pub one-more : (y : Ordering) → start ≤ n → n < length old → y ≡ f n → AreOrdered f old (set now n y) start (n + 1)
  one-more y l h e = record {
    long = length-set now n y ∙ so_far.long;
    within = λ i s b. in-front-or i n
        (λ k. let other : i ≢ n = omega (arith, k) in get_or-set_other now n i y Equal other ∙ so_far.within i s k)
        (λ k. let same : i ≡ n = omega (arith, b, k) in ap (order_in (set now n y)) same ∙ get_or-set_same now n y Equal (omega (arith, so_far.long, h)) ∙ e ∙ ap f (sym same));
    before = λ i k. let other : i ≢ n = omega (arith, l, k) in get_or-set_other now n i y Equal other ∙ so_far.before i k;
    after = λ i k. let other : i ≢ n = omega (arith, k) in get_or-set_other now n i y Equal other ∙ so_far.after i (omega (arith, k));
  }

  -- the same rows by a function that gives the same orders
  pub by-same : (g : ℕ → Ordering) → ((i : ℕ) → start ≤ i → i < n → f i ≡ g i) → AreOrdered g old now start n
  by-same g h = record { long = so_far.long; within = λ i s b. so_far.within i s b ∙ h i s b; before = so_far.before; after = so_far.after }

-- one block more
pub next-block : (f : ℕ → Ordering) (old now new : List Ordering) (start end : ℕ) → start ≤ end → AreOrdered f old now 0 start → AreOrdered f now new start end → AreOrdered f old new 0 end
next-block f old now new start end l first second = record {
  long = second.long ∙ first.long;
  within = λ i s b. in-front-or i start (λ k. second.before i k ∙ first.within i s k) (λ k. second.within i k b);
  before = λ i k. absurd (omega (arith, k));
  after = λ i k. second.after i k ∙ first.after i (omega (arith, l, k));
}

-- all rows
pub all-set : (f : ℕ → Ordering) (old now : List Ordering) (end : ℕ) → AreOrdered f old now 0 end → end ≡ length old → now ≡ below f (length old)
all-set f old now end all e =
    let size = length-map-range_with_len f 0 (length old) in
    ext_get_or Equal now (below f (length old)) (all.long ∙ sym size)
    (λ i b. let within : i < length old = omega (arith, all.long, b) in all.within i (omega arith) (omega (arith, e, within)) ∙ sym (get_or-map-range_with_len f 0 (length old) i i Equal within (omega arith)))
