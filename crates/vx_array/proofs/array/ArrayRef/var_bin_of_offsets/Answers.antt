use Rattle.vx_base.specs.TypeOf.{type_of}
use Rattle.vx_array.proofs.Making.{var_bin_array}
use Rattle.vx_array.proofs.array.ArrayRef.var_bin_of_offsets.Goals as goal

pub invariant_of-result : goal.invariant_of-result
invariant_of-result c =
    (rw (c.keep.ensures, c.in-Ok.ensures.ok) (var_bin_array c.args.offsets c.args.bytes c.args.valid (type_of c.args.dtype) c.row_count-len.result c.requires c.known.ensures c.row_count-len.ensures), tt)
