use Rattle.std.proofs.Common.{◌≡◌, ◌∙◌, ap}
use Rattle.vx_base.specs.PlainType.{nullability_of, or_nullable, with_nullability}
use Rattle.vx_base.specs.TypeOf.{type_of}
use Rattle.vx_model.specs.TreeType.{tree_type, dict_type}
use Rattle.vx_array.proofs.Making.{dict_array}
use Rattle.vx_array.proofs.array.ArrayRef.dict_of_places.Goals as goal

pub invariant_of-result : goal.invariant_of-result
invariant_of-result c =
    let values_nullability = c.nullability.ensures ∙ ap nullability_of c.dtype.ensures in
    let codes_nullability = c.nullability-2.ensures ∙ ap nullability_of c.dtype-2.ensures in
    let nullability = c.or-nullability.ensures ∙ (λ i. or_nullable (values_nullability i) (codes_nullability i)) in
    let own : type_of c.in-Ok.own_type ≡ dict_type (tree_type c.args.codes) (tree_type c.args.values) = c.in-Ok.ensures ∙ (λ i. with_nullability (c.dtype-3.ensures i) (nullability i)) in
    (rw (c.in-Ok-boxed.ensures.0, c.in-Ok-boxed.ensures.1) (dict_array c.args.codes c.args.values _ _ c.requires c.known.ensures c.known-2.ensures own c.len-len.ensures), tt)
