use Rattle.std.proofs.Common.{◌≡◌, take, true}
use Rattle.std.specs.List.{list_all}
use Rattle.vx_base.specs.PlainValue.{is_short}
use Rattle.vx_model.specs.Rows.{rows, cut_at}
use Rattle.vx_array.proofs.node.var_bin.are_short.Given as goal

abbrev pub invariant-loop-row : goal.invariant-loop-row
invariant-loop-row l = list_all is_short (take l.row (cut_at (rows l.offsets) l.bytes)) ≡ true
