use Rattle.std.proofs.Common.{arith}
use Rattle.vx_blocks.proofs.Windows.{low-mask}
use Rattle.vx_blocks.proofs.reading.low_bits.Goals as goal

pub returns-else-width-eq64 : goal.returns-else-width-eq64
returns-else-width-eq64 c = low-mask c.args.word c.args.width (omega arith)
