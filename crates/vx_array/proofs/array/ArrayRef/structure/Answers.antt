use Rattle.std.proofs.Common.{◌≡◌, ◌∙◌, ap, sym, length, None}
use Rattle.std.proofs.lemmas.Bool.{and_parts, eqb-true}
use Rattle.vx_base.specs.PlainType as types
use Rattle.vx_model.specs.Refusals.{structure_refusal}
use Rattle.vx_model.specs.Tree.{of_list}
use Rattle.vx_model.proofs.PackedLemmas.{passed}
use Rattle.vx_model.proofs.TreesLemmas.{list_of-of_list}
use Rattle.vx_array.proofs.Making.{structure_array}
use Rattle.vx_array.proofs.array.ArrayRef.structure.Goals as goal

pub typed_fields-requires : goal.typed_fields-requires
typed_fields-requires c =
    let accepted : structure_refusal c.args.names (of_list c.args.fields) c.args.len c.args.valid c.args.nullability ≡ None = sym c.refusal.ensures ∙ c.in_default.is in
    eqb-true _ _ (and_parts _ _ (passed _ _ _ accepted).0).0 ∙ ap length (list_of-of_list c.args.fields)

pub invariant_of-result : goal.invariant_of-result
invariant_of-result c =
    let accepted : structure_refusal c.args.names (of_list c.args.fields) c.args.len c.args.valid c.args.nullability ≡ None = sym c.refusal.ensures ∙ c.in_default.is in
    let own = c.structure.ensures ∙ ap (λ fs. types.structure fs c.args.nullability) c.in-Ok.ensures in
    (rw c.keep.ensures (structure_array c.args.names (of_list c.args.fields) c.args.len c.args.valid c.args.nullability _ accepted c.known.ensures own), tt)
