use Rattle.std.proofs.Common.{◌∙◌, ap}
use Rattle.std.specs.Ordering.{is_lt, is_some_and}
use Rattle.vx_blocks.proofs.Extremes.{less}
use Rattle.vx_stats.proofs.integer.rising.is_less.Goals as goal

pub returns : goal.returns
returns g c =
    let a = c.args.a in
    let b = c.args.b in
    c.lt.ensures ∙ ap (is_some_and is_lt) (g.met.T.Ord.matches_partial_cmp a b) ∙ less g.T.Integer.whole g.T.Ord.cmp g.met.T.Integer.ordered a b
