use Rattle.std.proofs.Common.{◌∙◌}
use Rattle.std.specs.Prelude.{◌&&◌}
use Rattle.vx_base.specs.TypeOf.{type_of}
use Rattle.vx_rows.proofs.AnswerLemmas.{within-types}
use Rattle.vx_rows.proofs.ranging.are_within_types.Goals as goal

pub returns : goal.returns
returns c = (λ i. c.are_comparable-below.ensures i && c.are_comparable-above.ensures i) ∙ within-types (type_of c.args.dtype.now) (type_of c.args.lower.now) (type_of c.args.upper.now)
