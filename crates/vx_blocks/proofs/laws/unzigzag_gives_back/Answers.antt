use Rattle.vx_base.proofs.ZigZagLemmas.{unzigzag-zigzag}
use Rattle.vx_blocks.proofs.laws.unzigzag_gives_back.Goals as goal

pub returns : goal.returns
returns c = unzigzag-zigzag
