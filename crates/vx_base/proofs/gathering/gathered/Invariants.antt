use Rattle.std.proofs.Common.{◌≡◌, take}
use Rattle.vx_base.specs.Gathered.{gathered}
use Rattle.vx_base.proofs.gathering.gathered.Given as goal

abbrev pub invariant-loop-range : goal.invariant-loop-range
invariant-loop-range g l = l.all.items ≡ gathered (take l.range-index l.ranges) l.items
