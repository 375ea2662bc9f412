use Rattle.std.proofs.Common.{map}
use Rattle.vx_base.specs.Integers.{bits_in}
use Rattle.vx_blocks.proofs.PackedSoFar.{PackedSoFar}
use Rattle.vx_blocks.proofs.packing_in_blocks.pack_blocks_of.Given as goal

abbrev pub invariant-loop-block : goal.invariant-loop-block
invariant-loop-block g l = PackedSoFar l.widths (map (bits_in g.T.Integer.kind) (map g.T.Integer.whole l.values)) l.valid l.block l.out.items
