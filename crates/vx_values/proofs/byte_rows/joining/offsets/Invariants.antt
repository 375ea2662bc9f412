use Rattle.std.proofs.Common.{◌≡◌, length, take}
use Rattle.vx_model.specs.Offsets.{offsets_of}
use Rattle.vx_model.specs.Nested.{concatenated}
use Rattle.vx_values.proofs.byte_rows.joining.offsets.Given as goal

abbrev pub invariant-loop-row : goal.invariant-loop-row
invariant-loop-row l = (l.offsets.items ≡ offsets_of (take l.row-index l.row-items)) × (l.end ≡ length (concatenated (take l.row-index l.row-items)))
