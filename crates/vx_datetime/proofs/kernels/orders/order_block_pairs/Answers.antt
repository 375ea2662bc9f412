use Rattle.vx_datetime.specs.Moments.{row_parts}
use Rattle.vx_datetime.proofs.PartOrders.{all-parts, days-alone}
use Rattle.vx_values.specs.IntsOf.{wholes_of}
use Rattle.vx_datetime.proofs.kernels.orders.order_block_pairs.Goals as goal

pub returns-then-some_equal : goal.returns-then-some_equal
returns-then-some_equal c =
    let r = c.args.rows.now in
    all-parts (wholes_of r.days.now) (wholes_of r.seconds.now) (wholes_of r.subseconds.now) (row_parts c.args.others.now) c.args.start c.args.end c.args.orders.now c.refine_pairs.new.orders c.requires.equal c.refine_pairs.ensures
    c.refine_pairs-then-some_equal.new.orders c.refine_pairs-then-some_equal-2.new.orders c.refine_pairs-then-some_equal.ensures c.refine_pairs-then-some_equal-2.ensures

pub returns-else-some_equal : goal.returns-else-some_equal
returns-else-some_equal c =
    let r = c.args.rows.now in
    days-alone (wholes_of r.days.now) (wholes_of r.seconds.now) (wholes_of r.subseconds.now) (row_parts c.args.others.now) c.args.start c.args.end c.args.orders.now c.refine_pairs.new.orders c.requires.equal c.refine_pairs.ensures
    (c.some_equal.ensures c.if-some_equal.false)
