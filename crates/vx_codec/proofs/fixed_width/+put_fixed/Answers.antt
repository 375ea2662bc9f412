use Rattle.std.proofs.Common.{arith}
use Rattle.vx_codec.proofs.FormatLaws.{then_put}
use Rattle.vx_codec.proofs.NumberLaws.{more_bytes}
use Rattle.vx_codec.proofs.fixed_width.+put_fixed.Goals as goal

pub returns : goal.returns
returns t c = then_put _ _ _ _ _ _ c.in_ok-put_byte.ensures c.in_ok-put_fixed.ensures (more_bytes c.args.width c.args.number (omega arith))
