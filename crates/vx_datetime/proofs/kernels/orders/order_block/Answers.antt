use Rattle.std.proofs.Common.{FitsSigned, rules}
use Rattle.std.specs.Int.{w128}
use Rattle.vx_datetime.specs.Moments.{moment_parts}
use Rattle.vx_datetime.proofs.OutsideOrders.{from-word}
use Rattle.vx_datetime.proofs.PartOrders.{all-parts, days-alone}
use Rattle.vx_values.specs.IntsOf.{wholes_of}
use Rattle.vx_datetime.proofs.kernels.orders.order_block.Goals as goal

pub returns-then-some_equal : goal.returns-then-some_equal
returns-then-some_equal c =
    let r = c.args.rows.now in
    let m = c.args.moment.now in
    let d : FitsSigned w128 m.days = search rules in
    let s : FitsSigned w128 m.seconds = search rules in
    let u : FitsSigned w128 m.subseconds = search rules in
    let one = c.refine.new.orders in
    let two = c.refine-then-some_equal.new.orders in
    let three = c.refine-then-some_equal-2.new.orders in
    all-parts (wholes_of r.days.now) (wholes_of r.seconds.now) (wholes_of r.subseconds.now) (λ i. moment_parts m) c.args.start c.args.end c.args.orders.now one c.requires.equal
    (from-word c.args.orders.now one m.days (wholes_of r.days.now) c.args.start c.args.end d c.refine.ensures) two three
    (from-word one two m.seconds (wholes_of r.seconds.now) c.args.start c.args.end s c.refine-then-some_equal.ensures) (from-word two three m.subseconds (wholes_of r.subseconds.now) c.args.start c.args.end u c.refine-then-some_equal-2.ensures)

pub returns-else-some_equal : goal.returns-else-some_equal
returns-else-some_equal c =
    let r = c.args.rows.now in
    let m = c.args.moment.now in
    let d : FitsSigned w128 m.days = search rules in
    let one = c.refine.new.orders in
    days-alone (wholes_of r.days.now) (wholes_of r.seconds.now) (wholes_of r.subseconds.now) (λ i. moment_parts m) c.args.start c.args.end c.args.orders.now one c.requires.equal
    (from-word c.args.orders.now one m.days (wholes_of r.days.now) c.args.start c.args.end d c.refine.ensures) (c.some_equal.ensures c.if-some_equal.false)
