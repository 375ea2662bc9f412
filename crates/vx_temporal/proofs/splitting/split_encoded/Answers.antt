use Rattle.std.proofs.Common.{◌∙◌, ap, subst}
use Rattle.vx_base.specs.PlainType.{nullability_of}
use Rattle.vx_temporal.specs.Split.{unit_in}
use Rattle.vx_temporal.specs.SplitOf.{Splits}
use Rattle.vx_temporal.proofs.splitting.split_encoded.Goals as goal

pub split_plain-requires-clause-unit : goal.split_plain-requires-clause-unit
split_plain-requires-clause-unit c = ap (λ own. unit_in own.dtype) c.in_ok-plain.ensures.kept ∙ c.requires.unit

pub returns : goal.returns
returns c = subst (λ own. Splits c.args.unit (nullability_of own.dtype) own.values c.split_plain.result) c.in_ok-plain.ensures.kept c.split_plain.ensures
