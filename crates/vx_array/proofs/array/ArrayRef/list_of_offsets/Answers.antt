use Rattle.vx_array.proofs.Making.{list_array}
use Rattle.vx_array.proofs.array.ArrayRef.list_of_offsets.Goals as goal

pub invariant_of-result : goal.invariant_of-result
invariant_of-result c =
    let own = c.in-Ok-boxed.ensures in
    (rw (own.0, own.1, c.keep.ensures) (list_array c.args.elements c.args.offsets c.args.valid c.args.nullability _ _ c.requires c.known.ensures c.known-2.ensures c.in-Ok.ensures c.row_count-len.ensures), tt)
