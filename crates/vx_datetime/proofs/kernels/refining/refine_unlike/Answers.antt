use Rattle.std.proofs.Common.{◌≡◌, ◌<◌, ◌∙◌, arith, length, subst}
use Rattle.std.specs.Ordering.{ordering_then}
use Rattle.vx_datetime.specs.Orders.{AreOrdered, refined_at, whole_in}
use Rattle.vx_datetime.proofs.Refinings.{next-row, none-set, one-more}
use Rattle.vx_values.specs.IntsOf.{wholes_of}
use Rattle.vx_datetime.proofs.kernels.refining.refine_unlike.Goals as goal

pub loop-row-init : goal.loop-row-init
loop-row-init c = none-set (refined_at c.args.orders.now (wholes_of c.args.part.now) (whole_in (wholes_of c.args.other.now))) c.args.orders.now c.args.start

pub loop-row-preserved : goal.loop-row-preserved
loop-row-preserved c =
    let orders = c.args.orders.now in
    let row = c.loop-row.row in
    let so_far = c.loop-row.invariant in
    let f = refined_at orders (wholes_of c.args.part.now) (whole_in (wholes_of c.args.other.now)) in
    let within : row < length orders = omega (arith, so_far.long) in
    let before = next-row f orders c.loop-row.orders c.args.start row so_far within in
    let here : c.then.result ≡ f row = c.then.ensures ∙ (λ i. ordering_then (before i) (c.order_at.ensures i)) in
    one-more f orders c.loop-row.orders c.args.start row so_far c.then.result (omega arith) within here

pub returns : goal.returns
returns c =
    let last : c.loop-row.row ≡ c.args.end = omega (arith, c.loop-row.auto.row-end) in
    subst (AreOrdered (refined_at c.args.orders.now (wholes_of c.args.part.now) (whole_in (wholes_of c.args.other.now))) c.args.orders.now c.loop-row.orders c.args.start) last c.loop-row.invariant
