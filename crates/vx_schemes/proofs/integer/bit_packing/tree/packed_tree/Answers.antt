use Rattle.std.proofs.Common.{◌≡◌, ◌∙◌, true, subst}
use Rattle.vx_base.proofs.MakesLemmas.{Makes_ok}
use Rattle.vx_schemes.proofs.MadeLemmas.{Makes_err}
use Rattle.vx_model.specs.Refusals.{bit_packed_refusal, validity_length}
use Rattle.vx_model.specs.Tree.{plain_packed, packed_of}
use Rattle.vx_values.specs.IntsOf.{ptype_of, wholes_of}
use Rattle.vx_schemes.specs.BitPacking.Admitted.{packed_admitted_by}
use Rattle.vx_schemes.proofs.integer.bit_packing.tree.packed_tree.Goals as goal

pub returns-in-Ok-clause-answer : goal.returns-in-Ok-clause-answer
returns-in-Ok-clause-answer c =
    let patches = c.in_ok-patches.ensures.answer in
    Makes_ok _ _ _ _ c.in-Ok.ensures
    ∙ (λ i. packed_of (plain_packed (c.ptype-ptype.ensures i) c.args.width (c.in_ok-packed.ensures i) (c.len.ensures i) (c.validity.ensures.kept i) c.args.nullability) (patches i))

pub returns-in-Err-clause-answer : goal.returns-in-Err-clause-answer
returns-in-Err-clause-answer c =
    let p = ptype_of c.args.values.now in
    let xs = wholes_of c.args.values.now in
    let valid = c.validity.result in
    let patches = c.in_ok-patches.ensures.answer in
    let long = subst (λ k. validity_length valid k ≡ true) c.requires.same c.validity.ensures.length in
    Makes_err _ _ _ _
    ((λ i. bit_packed_refusal (plain_packed (c.ptype-ptype.ensures i) c.args.width (c.in_ok-packed.ensures i) (c.len.ensures i) valid c.args.nullability) (patches i))
    ∙ packed_admitted_by p c.args.nullability xs c.args.valid valid c.args.width _ long (c.validity.ensures.allowed c.args.nullability c.requires.allowed) c.requires.narrow) c.in-Err.ensures
