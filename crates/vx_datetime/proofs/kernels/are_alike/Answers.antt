use Rattle.vx_base.specs.PlainType.{stored_type}
use Rattle.vx_base.specs.Storable.{same_from}
use Rattle.vx_datetime.proofs.kernels.are_alike.Goals as goal

pub returns : goal.returns
returns c = same_from stored_type _ _ c.same_base.result c.same_base.ensures.0 c.same_base.ensures.1
