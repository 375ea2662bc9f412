use Rattle.std.proofs.Common.{◌*◌, length, map}
use Rattle.vx_values.specs.InBlocks.{moved_row}
use Rattle.vx_values.proofs.BlockGrowth.{IsGrown}
use Rattle.vx_values.proofs.ints.reference_blocks.sums.Given as goal

abbrev pub invariant-loop-block : goal.invariant-loop-block
invariant-loop-block g l =
    IsGrown (moved_row g.T.Integer.kind (map g.T.Integer.whole l.references) (map g.D.Integer.whole l.differences)) (length l.differences) (map g.T.Integer.whole l.items.items) (1024 * l.block)
