use Rattle.std.proofs.Common.{[], map}
use Rattle.vx_base.specs.PlainValue.{int}
use Rattle.vx_values.proofs.Placed.{AreFilled}
use Rattle.vx_values.proofs.byte_rows.filling.fill_runs.Given as goal

abbrev pub invariant-loop-run : goal.invariant-loop-run
invariant-loop-run g l = AreFilled (map int (map g.C.Integer.whole l.ends)) l.rows [] l.all.items l.run
