use Rattle.std.proofs.Common.{ap, ◌∙◌, length, map}
use Rattle.vx_base.specs.TypeOf.{value_of}
use Rattle.vx_model.specs.Refusals.{kept, primitive_refusal}
use Rattle.vx_model.specs.Tree.{primitive}
use Rattle.vx_model.proofs.DecodeLemmas.{plain_admitted, kept-validity}
use Rattle.vx_model.proofs.PlainLemmas.{wholes_lie_in}
use Rattle.vx_array.proofs.of_values.flat.of_wholes.Goals as goal

pub wholes-requires : goal.wholes-requires
wholes-requires c = wholes_lie_in c.args.ptype c.args.nullability (map value_of c.args.values.now) c.requires

pub primitive_of-requires : goal.primitive_of-requires
primitive_of-requires c =
    (λ i. primitive_refusal (length (c.in_ok-wholes.ensures.1 i)) (c.in_ok-valid.ensures i) c.args.nullability)
    ∙ plain_admitted c.args.ptype c.args.nullability (map value_of c.args.values.now) c.requires

pub returns : goal.returns
returns c =
    let valid = ap kept c.in_ok-valid.ensures ∙ kept-validity (map value_of c.args.values.now) in
    c.primitive_of.ensures ∙ (λ i. primitive (c.in_ok-wholes.ensures.0 i) (c.in_ok-wholes.ensures.1 i) (valid i) c.args.nullability)
