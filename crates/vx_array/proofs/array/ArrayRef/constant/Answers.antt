use Rattle.vx_array.proofs.Making.{constant_array}
use Rattle.vx_array.proofs.array.ArrayRef.constant.Goals as goal

pub invariant_of-result : goal.invariant_of-result
invariant_of-result c = (constant_array c.args.value c.args.len c.known.ensures, tt)
