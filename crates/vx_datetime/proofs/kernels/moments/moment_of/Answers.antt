use Rattle.vx_datetime.proofs.MomentParts.{moment-is, moment-made}
use Rattle.vx_datetime.proofs.kernels.moments.moment_of.Goals as goal

pub returns : goal.returns
returns c =
    let t = c.args.timestamp in
    let d = c.args.divisor in
    moment-is t d _ c.requires (moment-made t d c.ranges.timestamp c.ranges.divisor c.requires c.from.result c.from-2.result c.from-3.result c.from.ensures c.from-2.ensures c.from-3.ensures)
