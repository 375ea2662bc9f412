use Rattle.vx_blocks.proofs.DeltasBack.{gives_back_deltas}
use Rattle.vx_blocks.proofs.laws.undelta_gives_back.Goals as goal

pub returns : goal.returns
returns c = gives_back_deltas
