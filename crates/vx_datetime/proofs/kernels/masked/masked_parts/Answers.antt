use Rattle.std.proofs.Common.{◌∙◌, ap}
use Rattle.std.proofs.lemmas.Result.{MatchResult-weaker}
use Rattle.vx_model.specs.Column.{column_of}
use Rattle.vx_model.specs.Nodes.{encoding}
use Rattle.vx_datetime.proofs.MaskedParts.{parts_masked}
use Rattle.vx_datetime.proofs.kernels.masked.masked_parts.Goals as goal

pub over_parts-requires : goal.over_parts-requires
over_parts-requires c = (parts_masked c.args.parts.now.kind.now c.args.parts.now.nullability c.args.parts.now.days.now c.args.parts.now.seconds.now c.args.parts.now.subseconds.now c.requires.well c.args.keep.now c.requires.bits c.in_ok-days.days c.in_ok-seconds.seconds c.in_ok-subseconds.subseconds c.in_ok-seconds.ensures c.in_ok-subseconds.ensures c.in_ok-days.ensures.answer).accepted

pub returns-clause-answer : goal.returns-clause-answer
returns-clause-answer c = MatchResult-weaker c.over_parts.result c.over_parts.ensures (λ out is. (ap column_of is ∙ (parts_masked c.args.parts.now.kind.now c.args.parts.now.nullability c.args.parts.now.days.now c.args.parts.now.seconds.now c.args.parts.now.subseconds.now c.requires.well c.args.keep.now c.requires.bits c.in_ok-days.days c.in_ok-seconds.seconds c.in_ok-subseconds.subseconds c.in_ok-seconds.ensures c.in_ok-subseconds.ensures c.in_ok-days.ensures.answer).column, ap encoding is)) (λ e is. is)
