use Rattle.std.proofs.Common.{◌*◌, pos, get_or, length, map}
use Rattle.std.specs.Prelude.{◌+ℤ◌}
use Rattle.vx_base.specs.Wrapping.{wrap}
use Rattle.vx_values.proofs.BlockGrowth.{IsGrown}
use Rattle.vx_values.proofs.ints.frame_of_reference.sums.Given as goal

abbrev pub invariant-loop-block : goal.invariant-loop-block
invariant-loop-block g l =
    IsGrown (λ i. wrap g.T.Integer.kind (g.T.Integer.whole l.reference +ℤ get_or (map g.D.Integer.whole l.differences) i (pos 0))) (length l.differences) (map g.T.Integer.whole l.items.items) (1024 * l.block)
