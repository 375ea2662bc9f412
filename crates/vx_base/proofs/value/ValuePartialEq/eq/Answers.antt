use Rattle.vx_base.specs.PlainValue.{stored_value}
use Rattle.vx_base.specs.Storable.{same_from}
use Rattle.vx_base.proofs.value.ValuePartialEq.eq.Goals as goal

pub returns : goal.returns
returns c = same_from stored_value _ _ c.same.result c.same.ensures.0 c.same.ensures.1
