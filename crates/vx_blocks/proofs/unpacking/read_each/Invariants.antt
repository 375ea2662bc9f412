use Rattle.std.proofs.Common.{pos, map}
use Rattle.vx_base.specs.Wrapping.{wrap}
use Rattle.vx_blocks.specs.Appended.{AppendsRows}
use Rattle.vx_blocks.proofs.unpacking.read_each.Given as goal

abbrev pub invariant-loop-row : goal.invariant-loop-row
invariant-loop-row g l = AppendsRows (λ n. wrap g.T.Integer.kind (pos n)) l.packed l.width l.start l.row (map g.T.Integer.whole l.initial.rows.items) (map g.T.Integer.whole l.rows.items)
