use Rattle.std.proofs.Common.{◌≡◌}
use Rattle.vx_base.specs.Integers.{bits_in}
use Rattle.vx_blocks.proofs.WideRows.{wide_before}
use Rattle.vx_blocks.proofs.wider.push_wide.Given as goal

abbrev pub invariant-loop-i : goal.invariant-loop-i
invariant-loop-i g l = l.rows.items ≡ wide_before (bits_in g.T.Integer.kind) g.T.Integer.whole l.width l.values l.valid l.i
