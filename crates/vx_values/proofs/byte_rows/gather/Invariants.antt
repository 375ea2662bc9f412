use Rattle.std.proofs.Common.{◌≡◌, take}
use Rattle.vx_base.specs.Gathered.{gathered}
use Rattle.vx_values.proofs.byte_rows.gather.Given as goal

abbrev pub invariant-loop-range : goal.invariant-loop-range
invariant-loop-range l = l.all.items ≡ gathered (take l.range-index l.ranges) l.rows
