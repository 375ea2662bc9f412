use Rattle.std.proofs.Common.{◌≡◌, take}
use Rattle.vx_model.specs.Nested.{concatenated}
use Rattle.vx_values.proofs.byte_rows.joining.concatenated.Given as goal

abbrev pub invariant-loop-row : goal.invariant-loop-row
invariant-loop-row l = l.bytes.items ≡ concatenated (take l.row-index l.row-items)
