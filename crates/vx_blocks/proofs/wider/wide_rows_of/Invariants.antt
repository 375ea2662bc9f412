use Rattle.std.proofs.Common.{◌≡◌, ◌*◌}
use Rattle.vx_base.specs.Integers.{bits_in}
use Rattle.vx_blocks.proofs.WideRows.{wide_before}
use Rattle.vx_blocks.proofs.wider.wide_rows_of.Given as goal

abbrev pub invariant-loop-group : goal.invariant-loop-group
invariant-loop-group g l = l.rows.items ≡ wide_before (bits_in g.T.Integer.kind) g.T.Integer.whole l.width l.values l.valid (64 * l.group)
