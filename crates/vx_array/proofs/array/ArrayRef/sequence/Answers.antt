use Rattle.std.proofs.Common.{◌≡◌, ◌∙◌, sym, refl, None, to_z, of_z}
use Rattle.std.specs.Int.{w128}
use Rattle.vx_base.specs.TypeOf.{type_of}
use Rattle.vx_model.specs.Refusals.{sequence_refusal}
use Rattle.vx_array.proofs.Blocks.{sequence_array}
use Rattle.vx_array.proofs.array.ArrayRef.sequence.Goals as goal

pub invariant_of-result : goal.invariant_of-result
invariant_of-result c =
    let a = c.args in
    let first = to_z w128 (of_z w128 a.first) in
    let step = to_z w128 (of_z w128 a.step) in
    let accepted : sequence_refusal a.ptype first step a.len ≡ None = rw (sym c.is_held.ensures ∙ c.if-not-is_held.false, sym c.are_held.ensures ∙ c.if-not-are_held.false) refl in
    (sequence_array a.ptype a.nullability first step a.len (type_of c.primitive.result) accepted c.primitive.ensures, tt)
