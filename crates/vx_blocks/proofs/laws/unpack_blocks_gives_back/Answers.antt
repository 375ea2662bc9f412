use Rattle.vx_blocks.proofs.ReadBackBlocks.{gives_back_block_values, gives_back_block_rows}
use Rattle.vx_blocks.proofs.laws.unpack_blocks_gives_back.Goals as goal

pub returns-clause-values : goal.returns-clause-values
returns-clause-values c = gives_back_block_values

pub returns-clause-kept_rows : goal.returns-clause-kept_rows
returns-clause-kept_rows c = gives_back_block_rows
