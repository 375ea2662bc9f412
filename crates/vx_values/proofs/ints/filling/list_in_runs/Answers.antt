use Rattle.std.proofs.Common.{◌∙◌, map, pos}
use Rattle.vx_base.specs.PlainValue.{int}
use Rattle.vx_values.specs.IntsOf.{wholes_of}
use Rattle.vx_values.proofs.Placed.{stand-by_runs}
use Rattle.vx_values.proofs.ints.filling.list_in_runs.Goals as goal

pub returns : goal.returns
returns g c = stand-by_runs g.T.Integer.whole (map int (wholes_of c.args.ends.now)) c.args.items.now c.from_vec.result c.zero.result (pos 0) (c.from_vec.ensures ∙ c.in_ok-in_runs.ensures) c.zero.ensures
