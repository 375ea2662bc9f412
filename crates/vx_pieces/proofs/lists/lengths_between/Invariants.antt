use Rattle.std.proofs.Common.{◌≡◌, ◌≤◌, take}
use Rattle.vx_pieces.specs.Lengths.{lengths_between}
use Rattle.vx_pieces.proofs.lists.lengths_between.Given as goal

abbrev pub invariant-loop-place : goal.invariant-loop-place
invariant-loop-place l = (1 ≤ l.place) × (l.lengths.items ≡ lengths_between (take l.place l.offsets))
