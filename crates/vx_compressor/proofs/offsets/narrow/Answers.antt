use Rattle.std.proofs.Common.{◌<◌, ◌^◌, arith, rules}
use Rattle.std.specs.Int.{w128}
use Rattle.std.specs.Prelude.{FitsSigned}
use Rattle.std.proofs.lemmas.Int.{to_z-of_z}
use Rattle.vx_model.specs.Rows.{rows}
use Rattle.vx_model.proofs.NarrowLemmas.{narrow-some, narrow-type, narrow-unsigned, narrowed-held, plain_offsets-root, plain_offsets-wholes}
use Rattle.vx_compressor.proofs.offsets.narrow.Goals as goal

pub as_primitive-requires : goal.as_primitive-requires
as_primitive-requires c = plain_offsets-root c.args.offsets.now c.args.end c.requires

pub narrow_type-requires : goal.narrow_type-requires
narrow_type-requires c =
    let low : c.args.end < 2 ^ 64 = omega arith in
    let fits : FitsSigned w128 c.from.result = search rules in
    rw (to_z-of_z w128 c.from.result fits, c.from.ensures) (narrow-some c.args.end low)

pub in_type-requires-clause-wide : goal.in_type-requires-clause-wide
in_type-requires-clause-wide c = (plain_offsets-wholes c.args.offsets.now c.args.end c.requires _ _ _ _ c.as_primitive.ensures.tree).0

pub in_type-requires-clause-unsigned : goal.in_type-requires-clause-unsigned
in_type-requires-clause-unsigned c =
    let fits : FitsSigned w128 c.from.result = search rules in
    narrow-unsigned c.args.end c.narrow_type.result (rw (to_z-of_z w128 c.from.result fits, c.from.ensures) at c.narrow_type.ensures)

pub in_type-requires-clause-held : goal.in_type-requires-clause-held
in_type-requires-clause-held c =
    let low : c.args.end < 2 ^ 64 = omega arith in
    let fits : FitsSigned w128 c.from.result = search rules in
    let own = plain_offsets-wholes c.args.offsets.now c.args.end c.requires _ _ _ _ c.as_primitive.ensures.tree in
    let typed = narrow-type c.args.end c.narrow_type.result (rw (to_z-of_z w128 c.from.result fits, c.from.ensures) at c.narrow_type.ensures) in
    rw typed (narrowed-held c.args.end (rows c.args.offsets.now) c.requires.between _ own.1 low)
