-- What operators answer of orders that are known by number.
use Rattle.std.proofs.Common.{◌≡◌, ◌∙◌, ◌<◌, ℕ, List, length, get_or, sym, ap, arith}
use Rattle.std.specs.Prelude.{◌&&◌}
use Rattle.std.specs.declared.cmp.Ordering.{Ordering}
use Rattle.std.specs.declared.cmp.Ordering.TheVariants.{Equal}
use Rattle.std.proofs.lemmas.List.FromFn.{get_or-map-range_with_len, length-map-range_with_len}
use Rattle.vx_model.specs.Rows.{below}
use Rattle.vx_datetime.specs.Orders.{order_in}
use Rattle.vx_datetime.proofs.Refinings.{below-same}
use Rattle.vx_rules.specs.declared.options.CompareOperator.{CompareOperator}
use Rattle.vx_rules.specs.Comparisons.{holds}

module _ (f : ℕ → Ordering) (n : ℕ) (orders : List Ordering) (e : orders ≡ below f n) where
  long : length orders ≡ n
  long = ap length e ∙ length-map-range_with_len f 0 n

  at : (i : ℕ) → i < n → get_or orders i Equal ≡ f i
  at i b = ap (λ os. get_or os i Equal) e ∙ get_or-map-range_with_len f 0 n i i Equal b (omega arith)

  pub held-of-each : (op : CompareOperator) → below (λ i. holds op (order_in orders i)) (length orders) ≡ below (λ i. holds op (f i)) n
  held-of-each op = ap (below (λ i. holds op (order_in orders i))) long ∙ below-same (λ i. holds op (order_in orders i)) (λ i. holds op (f i)) n (λ i b. ap (holds op) (at i b))

  module _ (g : ℕ → Ordering) (others : List Ordering) (d : others ≡ below g n) where
    pub as-long : length others ≡ length orders
    as-long = ap length d ∙ length-map-range_with_len g 0 n ∙ sym long

    pub both-of-each : (floor ceiling : CompareOperator) → below (λ i. holds floor (order_in orders i) && holds ceiling (order_in others i)) (length orders) ≡ below (λ i. holds floor (f i) && holds ceiling (g i)) n
    both-of-each floor ceiling =
        let there : (i : ℕ) → i < n → get_or others i Equal ≡ g i = λ i b. ap (λ os. get_or os i Equal) d ∙ get_or-map-range_with_len g 0 n i i Equal b (omega arith) in
        ap (below (λ i. holds floor (order_in orders i) && holds ceiling (order_in others i))) long
        ∙ below-same (λ i. holds floor (order_in orders i) && holds ceiling (order_in others i)) (λ i. holds floor (f i) && holds ceiling (g i)) n (λ i b j. holds floor (at i b j) && holds ceiling (there i b j))
