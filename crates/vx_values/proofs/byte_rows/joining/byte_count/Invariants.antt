use Rattle.std.proofs.Common.{◌≡◌, ◌-◌, ◌^◌, length, take}
use Rattle.std.specs.Prelude.{min}
use Rattle.vx_model.specs.Nested.{concatenated}
use Rattle.vx_values.proofs.byte_rows.joining.byte_count.Given as goal

abbrev pub invariant-loop-row : goal.invariant-loop-row
invariant-loop-row l = l.count ≡ min (length (concatenated (take l.row-index l.rows))) (2 ^ 64 - 1)
