use Rattle.std.proofs.Common.{◌≡◌, true}
use Rattle.std.specs.List.{list_all, range_with_len}
use Rattle.vx_model.specs.Rows.{rows}
use Rattle.vx_model.specs.WellFormed.{is_block_width}
use Rattle.vx_array.proofs.node.bit_packed_v2.are_widths.Given as goal

abbrev pub invariant-loop-block : goal.invariant-loop-block
invariant-loop-block l = list_all (is_block_width l.most (rows l.offsets)) (range_with_len 0 l.block) ≡ true
