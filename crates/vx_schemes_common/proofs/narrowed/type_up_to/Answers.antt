use Rattle.std.proofs.Common.{◌<◌, ◌^◌, arith, rules}
use Rattle.std.specs.Int.{w128}
use Rattle.std.specs.Prelude.{FitsSigned}
use Rattle.std.proofs.lemmas.Int.{to_z-of_z}
use Rattle.vx_model.proofs.NarrowLemmas.{narrow-some}
use Rattle.vx_schemes_common.proofs.narrowed.type_up_to.Goals as goal

pub narrow_type-requires : goal.narrow_type-requires
narrow_type-requires c =
    let low : c.args.top < 2 ^ 64 = omega arith in
    let fits : FitsSigned w128 c.from.result = search rules in
    rw (to_z-of_z w128 c.from.result fits, c.from.ensures) (narrow-some c.args.top low)

pub returns : goal.returns
returns c =
    let fits : FitsSigned w128 c.from.result = search rules in
    rw (to_z-of_z w128 c.from.result fits, c.from.ensures) at c.narrow_type.ensures
