use Rattle.std.proofs.Common.{◌∙◌, ap}
use Rattle.vx_blocks.proofs.Extremes.{whole-max}
use Rattle.vx_blocks.proofs.arithmetic.greater.Goals as goal

pub returns : goal.returns
returns g c = ap g.T.Integer.whole c.max.ensures ∙ whole-max g.T.Integer.whole g.T.Ord.cmp g.met.T.Integer.ordered c.args.a c.args.b
