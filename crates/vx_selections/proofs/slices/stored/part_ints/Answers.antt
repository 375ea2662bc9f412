use Rattle.std.proofs.Common.{◌∙◌}
use Rattle.std.proofs.lemmas.Result.{MatchResult-weaker}
use Rattle.vx_values.specs.IntsOf.{wholes_of}
use Rattle.vx_selections.proofs.Parts.{one_range}
use Rattle.vx_selections.proofs.slices.stored.part_ints.Goals as goal

pub returns : goal.returns
returns c = MatchResult-weaker c.gather.result c.gather.ensures (λ out is. (is.0, is.1 ∙ one_range c.args.start c.args.end (wholes_of c.args.values.now))) (λ e is. is)
