use Rattle.std.proofs.Common.{◌∙◌, ap, map}
use Rattle.std.proofs.lemmas.Result.{MatchResult-weaker}
use Rattle.vx_base.proofs.GatherLemmas.{map-gathered}
use Rattle.vx_values.proofs.ints.gathering.gathered_parts.Goals as goal

pub returns : goal.returns
returns g c =
    let whole = g.T.Integer.whole in
    MatchResult-weaker c.gather.result c.gather.ensures (λ list is. ap (map whole) is ∙ map-gathered whole c.args.ranges.now c.args.items.now) (λ _ is. is)
