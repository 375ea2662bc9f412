use Rattle.vx_array.proofs.Making.{primitive_array}
use Rattle.vx_array.proofs.array.ArrayRef.primitive_of.Goals as goal

pub invariant_of-result : goal.invariant_of-result
invariant_of-result c =
    (rw c.keep.ensures (primitive_array c.args.values c.args.valid c.args.nullability _ c.len-len.result c.requires c.known.ensures (rw c.ptype.ensures at c.primitive.ensures) c.len-len.ensures), tt)
