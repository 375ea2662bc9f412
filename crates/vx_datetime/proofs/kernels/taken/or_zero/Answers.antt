use Rattle.std.proofs.Common.{◌∙◌, ap, sym}
use Rattle.vx_base.specs.PlainType.{is_nullable}
use Rattle.vx_datetime.proofs.NoNulls.{kept-column}
use Rattle.vx_datetime.proofs.kernels.taken.or_zero.Goals as goal

pub returns-then-not-is_nullable-clause-answer : goal.returns-then-not-is_nullable-clause-answer
returns-then-not-is_nullable-clause-answer c =
    kept-column c.args.values c.args.ptype c.known.ensures c.requires (ap is_nullable (sym c.dtype.ensures) ∙ sym c.is_nullable.ensures ∙ c.if-not-is_nullable.true)
