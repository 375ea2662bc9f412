use Rattle.vx_base.specs.PlainType.{stored_type}
use Rattle.vx_base.specs.Storable.{same_from}
use Rattle.vx_base.proofs.dtype.equal.DTypePartialEq.eq.Goals as goal

pub returns : goal.returns
returns c = same_from stored_type _ _ c.same.result c.same.ensures.0 c.same.ensures.1
