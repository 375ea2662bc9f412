use Rattle.std.proofs.Common.{◌∙◌, ap}
use Rattle.vx_base.specs.PlainType as types
use Rattle.vx_array.proofs.PartArrays.{parts_array}
use Rattle.vx_array.proofs.array.ArrayRef.datetime_parts_of.Goals as goal

pub invariant_of-result : goal.invariant_of-result
invariant_of-result c =
    let own = c.in-Ok-three_boxed.ensures in (
      rw (own.0, own.1, own.2)
          (parts_array c.args.kind c.args.nullability c.args.days c.args.seconds c.args.subseconds _ _ c.requires c.known.ensures c.known-2.ensures c.known-3.ensures
          (c.timestamp.ensures ∙ ap (λ k. types.timestamp k c.args.nullability) c.in-Ok.ensures) c.len-len.ensures),
      tt,
    )
