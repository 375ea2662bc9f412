use Rattle.vx_schemes.proofs.Produced.{frames-produced}
use Rattle.vx_schemes.proofs.integer.frame_of_reference.FoRScheme.v1.Goals as goal

pub returns : goal.returns
returns c = frames-produced _
