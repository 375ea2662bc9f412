use Rattle.std.proofs.Common.{arith}
use Rattle.vx_codec.proofs.FormatLaws.{then_put}
use Rattle.vx_codec.proofs.NumberLaws.{more_groups}
use Rattle.vx_codec.proofs.varint.+put_groups.Goals as goal

pub returns : goal.returns
returns t c = then_put _ _ _ _ _ _ c.in_ok-put_byte-2.ensures c.in_ok-put_groups.ensures (more_groups c.args.left c.args.number (omega arith) (omega arith))
