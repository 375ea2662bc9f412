use Rattle.std.proofs.Common.{◌∙◌}
use Rattle.std.proofs.lemmas.Result.{MatchResult-weaker}
use Rattle.vx_selections.proofs.Parts.{one_range}
use Rattle.vx_selections.proofs.slices.stored.part_bytes.Goals as goal

pub returns : goal.returns
returns c = MatchResult-weaker c.gather.result c.gather.ensures (λ out is. is ∙ one_range c.args.start c.args.end c.args.values.now) (λ e is. is)
