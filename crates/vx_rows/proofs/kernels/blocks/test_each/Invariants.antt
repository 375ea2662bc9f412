use Rattle.std.proofs.Common.{◌≡◌, ◌*◌, map, take}
use Rattle.vx_rows.proofs.kernels.blocks.test_each.Given as goal

abbrev pub invariant-loop-block : goal.invariant-loop-block
invariant-loop-block g l = l.bits.items ≡ map (g.W.WholeTest.passes l.test) (map g.T.Integer.whole (take (1024 * l.block) l.items))
