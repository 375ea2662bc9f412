use Rattle.vx_base.specs.Integers.{lies_in}
use Rattle.vx_values.proofs.Cells.{each_whole}
use Rattle.vx_values.proofs.ints.converting.converted.Goals as goal

pub convert-requires : goal.convert-requires
convert-requires g c = each_whole g.T.Integer.whole (lies_in g.U.Integer.kind) c.args.items.now c.loop-row.row c.index-items-row.result c.loop-row-test.true c.index-items-row.is c.requires
