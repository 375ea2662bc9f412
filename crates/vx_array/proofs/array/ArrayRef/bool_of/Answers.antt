use Rattle.vx_array.proofs.Making.{bool_array}
use Rattle.vx_array.proofs.array.ArrayRef.bool_of.Goals as goal

pub invariant_of-result : goal.invariant_of-result
invariant_of-result c = (rw c.keep.ensures (bool_array c.args.values c.args.valid c.args.nullability _ c.len-len.result c.requires c.bool.ensures c.len-len.ensures), tt)
