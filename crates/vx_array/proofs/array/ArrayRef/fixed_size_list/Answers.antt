use Rattle.std.proofs.Common.{◌≡◌, ◌∙◌, sym, None}
use Rattle.vx_model.specs.Refusals.{fixed_size_list_refusal}
use Rattle.vx_array.proofs.Making.{fixed_size_list_array}
use Rattle.vx_array.proofs.array.ArrayRef.fixed_size_list.Goals as goal

pub invariant_of-result : goal.invariant_of-result
invariant_of-result c =
    let accepted : fixed_size_list_refusal c.args.elements c.args.list_size c.args.len c.args.valid c.args.nullability ≡ None = sym c.refusal.ensures ∙ c.in_default.is in
    (rw (c.in-Ok-new.ensures.ok, c.keep.ensures) (fixed_size_list_array c.args.elements c.args.list_size c.args.len c.args.valid c.args.nullability _ accepted c.known.ensures c.in-Ok.ensures), tt)
