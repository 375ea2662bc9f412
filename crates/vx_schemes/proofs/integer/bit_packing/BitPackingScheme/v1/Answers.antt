use Rattle.vx_schemes.proofs.Produced.{packings-produced}
use Rattle.vx_schemes.proofs.integer.bit_packing.BitPackingScheme.v1.Goals as goal

pub returns : goal.returns
returns c = packings-produced _
