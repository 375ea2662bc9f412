use Rattle.std.proofs.Common.{arith}
use Rattle.vx_codec.proofs.FormatLaws.{then_put}
use Rattle.vx_codec.proofs.BitLaws.{number_bits_more}
use Rattle.vx_codec.proofs.bits.+push_bits.Goals as goal

pub returns-clause-kept : goal.returns-clause-kept
returns-clause-kept t c = then_put _ _ _ _ _ _ c.in_ok-push.ensures.items c.in_ok-push_bits.ensures.kept (number_bits_more c.args.count c.args.number (omega arith))
