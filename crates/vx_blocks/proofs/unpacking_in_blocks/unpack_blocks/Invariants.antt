use Rattle.std.proofs.Common.{◌≡◌, ◌*◌, pos, map, min}
use Rattle.std.specs.List.{range_with_len}
use Rattle.vx_base.specs.PackedBlocks.{block_row}
use Rattle.vx_blocks.proofs.unpacking_in_blocks.unpack_blocks.Given as goal

abbrev pub invariant-loop-block : goal.invariant-loop-block
invariant-loop-block g l = map g.T.Integer.whole l.made.items ≡ map (λ row. pos (block_row l.packed l.offsets row)) (range_with_len 0 (min (1024 * l.block) l.len))
