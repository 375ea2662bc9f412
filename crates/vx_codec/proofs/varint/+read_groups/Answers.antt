use Rattle.std.proofs.Common.{arith}
use Rattle.vx_codec.proofs.NumberLaws.{group_more}
use Rattle.vx_codec.proofs.varint.+read_groups.Goals as goal

pub returns-clause-small : goal.returns-clause-small
returns-clause-small t c = omega (arith, c.in_ok-first.ensures.small, c.in_ok-high.ensures.small, c.from-2.ensures, group_more c.args.left (omega arith))
