use Rattle.vx_base.specs.TypeOf.{type_of}
use Rattle.vx_array.proofs.Making.{view_array}
use Rattle.vx_array.proofs.array.ArrayRef.var_bin_view_of.Goals as goal

pub invariant_of-result : goal.invariant_of-result
invariant_of-result c = (rw c.keep.ensures (view_array c.args.values c.args.valid (type_of c.args.dtype) c.len-len.result c.requires c.len-len.ensures), tt)
