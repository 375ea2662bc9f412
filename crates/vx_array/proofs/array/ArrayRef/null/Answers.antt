use Rattle.vx_array.proofs.Making.{nulls_array}
use Rattle.vx_array.proofs.array.ArrayRef.null.Goals as goal

pub invariant_of-result : goal.invariant_of-result
invariant_of-result c = (nulls_array c.args.len _ c.null.ensures, tt)
