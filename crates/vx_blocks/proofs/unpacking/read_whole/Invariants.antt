use Rattle.std.proofs.Common.{◌+◌, ◌*◌, min, pos, map}
use Rattle.vx_base.specs.Wrapping.{wrap}
use Rattle.vx_blocks.specs.Appended.{AppendsRows}
use Rattle.vx_blocks.proofs.unpacking.read_whole.Given as goal

abbrev pub invariant-loop-part : goal.invariant-loop-part
invariant-loop-part g l =
    AppendsRows (λ n. wrap g.T.Integer.kind (pos n)) l.packed g.row.W (8 * l.first) (8 * min (l.first + 32 * l.part) l.last) (map g.T.Integer.whole l.initial.rows.items) (map g.T.Integer.whole l.rows.items)
