use Rattle.std.proofs.Common.{arith}
use Rattle.vx_pieces.proofs.RepeatLemmas.{repeated-empty}
use Rattle.vx_pieces.proofs.bytes.add_blocks.Goals as goal

pub returns-in-empty : goal.returns-in-empty
returns-in-empty c = repeated-empty c.args.all.now.items c.args.times c.args.block.now (omega (arith, c.in-empty.len_below))
