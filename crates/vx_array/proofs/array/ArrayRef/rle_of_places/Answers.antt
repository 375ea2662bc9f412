use Rattle.std.proofs.Common.{◌∙◌}
use Rattle.vx_array.proofs.Blocks.{rle_array}
use Rattle.vx_array.proofs.array.ArrayRef.rle_of_places.Goals as goal

pub invariant_of-result : goal.invariant_of-result
invariant_of-result c =
    let own = c.in-Ok-three_boxed.ensures in
    (rw (own.0, own.1, own.2) (rle_array c.args.values c.args.indices c.args.offsets c.args.len _ c.requires c.known.ensures c.known-2.ensures c.known-3.ensures (c.in-Ok.ensures ∙ c.dtype.ensures)), tt)
