use Rattle.std.proofs.Common.{◌≡◌, ◌<◌, ◌∙◌, ap, arith, false, length, subst, sym}
use Rattle.std.specs.declared.cmp.Ordering.TheVariants.{Equal, Less}
use Rattle.std.specs.Ordering.{is_eq}
use Rattle.std.proofs.lemmas.Bool.{or_parts}
use Rattle.std.proofs.lemmas.List.{get_or_default}
use Rattle.vx_datetime.specs.Orders.{order_in}
use Rattle.vx_datetime.proofs.Refinings.{in-front-or}
use Rattle.vx_datetime.proofs.kernels.refining.some_equal.Goals as goal

pub loop-row-init : goal.loop-row-init
loop-row-init c = λ e i s b. absurd (omega (arith, s, b))

pub loop-row-preserved : goal.loop-row-preserved
loop-row-preserved c =
    let orders = c.args.orders.now in
    let row = c.loop-row.row in
    let there : row < length orders = omega arith in
    λ e i s b.
    let none = or_parts c.loop-row.found c.is_eq-found.result e in
    let here : is_eq (order_in orders row) ≡ false = ap is_eq (sym (get_or_default orders row Less Equal there)) ∙ sym c.is_eq-found.ensures ∙ none.1 in
    in-front-or i row (c.loop-row.invariant none.0 i s) (λ k. let same : row ≡ i = omega (arith, b, k) in subst (λ j. is_eq (order_in orders j) ≡ false) same here)

pub returns : goal.returns
returns c = λ e i s b. c.loop-row.invariant e i s (omega (arith, b))
