use Rattle.std.proofs.Common.{◌≡◌, ◌++◌}
use Rattle.vx_pieces.specs.Pieces.{repeated}
use Rattle.vx_pieces.proofs.bytes.add_each_block.Given as goal

abbrev pub invariant-loop-time : goal.invariant-loop-time
invariant-loop-time l = l.all.items ≡ l.initial.all.items ++ repeated l._time l.block
