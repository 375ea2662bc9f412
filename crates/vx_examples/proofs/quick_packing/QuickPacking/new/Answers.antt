use Rattle.std.proofs.Common.{refl, ap}
use Rattle.vx_schemes.specs.BitPacking.Tree.{bit_packing_made}
use Rattle.vx_schemes_common.proofs.Produced.{finishing-produced}
use Rattle.vx_schemes.proofs.Produced.{encoding-made}
use Rattle.vx_examples.specs.QuickPacking.{quick_packing}
use Rattle.vx_examples.proofs.quick_packing.QuickPacking.new.Goals as goal

pub returns : goal.returns
returns c = finishing-produced quick_packing bit_packing_made (λ c site. refl) (λ c tree e. ap quick_packing.produces (encoding-made c tree e)) (λ c site trees. refl)
