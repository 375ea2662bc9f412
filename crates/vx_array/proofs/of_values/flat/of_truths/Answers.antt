use Rattle.std.proofs.Common.{ap, ◌∙◌, length, map}
use Rattle.vx_base.specs.PlainType as types
use Rattle.vx_base.specs.PlainValue.{truth_or_false}
use Rattle.vx_base.specs.TypeOf.{value_of}
use Rattle.vx_model.specs.Refusals.{kept, primitive_refusal}
use Rattle.vx_model.specs.Tree.{bool}
use Rattle.vx_model.proofs.DecodeLemmas.{items_admitted, kept-validity}
use Rattle.vx_array.proofs.of_values.flat.of_truths.Goals as goal

pub bool_of-requires : goal.bool_of-requires
bool_of-requires c =
    (λ i. primitive_refusal (length (c.in_ok-truths.ensures i)) (c.in_ok-valid.ensures i) c.args.nullability)
    ∙ items_admitted truth_or_false (types.boolean c.args.nullability) (map value_of c.args.values.now) c.requires

pub returns : goal.returns
returns c =
    let valid = ap kept c.in_ok-valid.ensures ∙ kept-validity (map value_of c.args.values.now) in
    c.bool_of.ensures ∙ (λ i. bool (c.in_ok-truths.ensures i) (valid i) c.args.nullability)
