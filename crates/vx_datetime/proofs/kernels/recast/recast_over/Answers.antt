use Rattle.std.proofs.Common.{◌∙◌, ap}
use Rattle.std.proofs.lemmas.Result.{MatchResult-weaker}
use Rattle.vx_model.specs.Column.{column_of}
use Rattle.vx_datetime.proofs.CastParts.{parts_cast}
use Rattle.vx_datetime.proofs.kernels.recast.recast_over.Goals as goal

pub over_parts-requires : goal.over_parts-requires
over_parts-requires c = (parts_cast c.args.parts.now.kind.now c.args.parts.now.nullability c.args.nullability c.args.parts.now.days.now c.args.parts.now.seconds.now c.args.parts.now.subseconds.now c.requires.well c.args.days c.in_ok-seconds.seconds c.in_ok-subseconds.subseconds c.in_ok-seconds.ensures c.in_ok-subseconds.ensures c.requires.days).accepted

pub returns : goal.returns
returns c = MatchResult-weaker c.over_parts.result c.over_parts.ensures (λ out is. ap column_of is ∙ (parts_cast c.args.parts.now.kind.now c.args.parts.now.nullability c.args.nullability c.args.parts.now.days.now c.args.parts.now.seconds.now c.args.parts.now.subseconds.now c.requires.well c.args.days c.in_ok-seconds.seconds c.in_ok-subseconds.subseconds c.in_ok-seconds.ensures c.in_ok-subseconds.ensures c.requires.days).column) (λ e is. is)
