use Rattle.std.proofs.Common.{sym, subst}
use Rattle.vx_codec.specs.Reads.{Fails}
use Rattle.vx_datetime.specs.Metadata.{IsSpelled}
use Rattle.vx_metadata.specs.Numbers.{numbers, three}
use Rattle.vx_datetime.proofs.MetadataLaws.{outside_days, outside_seconds, outside_subseconds, read_spelled, unread_none}
use Rattle.vx_datetime.proofs.metadata.read_message.Goals as goal

pub returns-in_default : goal.returns-in_default
returns-in_default c = unread_none c.args.bytes.now (subst (λ e. Fails e (numbers.parse c.args.bytes.now)) c.in_default.ensures.surely c.in_default.ensures.read)

pub returns-in_err-days : goal.returns-in_err-days
returns-in_err-days c =
    rw c.from_residual.ensures (outside_days c.args.bytes.now (three c.in-Ok.days c.in-Ok.seconds c.in-Ok.subseconds) c.in-Ok.ensures.read c.in_err-days.ensures)

pub returns-in_err-seconds : goal.returns-in_err-seconds
returns-in_err-seconds c =
    rw c.from_residual-in_err-seconds.ensures (outside_seconds c.args.bytes.now (three c.in-Ok.days c.in-Ok.seconds c.in-Ok.subseconds) c.in-Ok.ensures.read c.in_err-seconds.ensures)

pub returns-in_err-subseconds : goal.returns-in_err-subseconds
returns-in_err-subseconds c =
    rw c.from_residual-in_err-subseconds.ensures (outside_subseconds c.args.bytes.now (three c.in-Ok.days c.in-Ok.seconds c.in-Ok.subseconds) c.in-Ok.ensures.read c.in_err-subseconds.ensures)

pub returns : goal.returns
returns c =
    subst (IsSpelled c.args.bytes.now 3) (sym c.of_ptypes.ensures)
    (read_spelled c.args.bytes.now (three c.in-Ok.days c.in-Ok.seconds c.in-Ok.subseconds) c.in-Ok.ensures.read c.in_ok-days.days c.in_ok-seconds.seconds c.in_ok-subseconds.subseconds
    c.in_ok-days.ensures c.in_ok-seconds.ensures c.in_ok-subseconds.ensures)
