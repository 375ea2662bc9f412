use Rattle.std.proofs.Common.{map}
use Rattle.vx_base.specs.Integers.{bits_in}
use Rattle.vx_base.specs.Packed.{kept_rows}
use Rattle.vx_blocks.proofs.BlockWidths.{BestSoFar}
use Rattle.vx_blocks.proofs.widths_in_blocks.best_widths_of.Given as goal

abbrev pub invariant-loop-block : goal.invariant-loop-block
invariant-loop-block g l = BestSoFar g.T.Integer.kind (kept_rows 64 (map (bits_in g.T.Integer.kind) (map g.T.Integer.whole l.values)) l.valid) l.block l.widths.items
