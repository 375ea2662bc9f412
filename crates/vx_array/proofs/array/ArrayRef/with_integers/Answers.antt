use Rattle.std.proofs.Common.{◌∙◌, length, ap}
use Rattle.vx_model.specs.Refusals.{kept, primitive_refusal}
use Rattle.vx_model.specs.Tree.{primitive}
use Rattle.vx_model.proofs.PrimitiveLemmas.{other_integers}
use Rattle.vx_values.specs.IntsOf.{ptype_of, wholes_of}
use Rattle.vx_array.proofs.array.ArrayRef.with_integers.Goals as goal

pub primitive_of-requires : goal.primitive_of-requires
primitive_of-requires c =
    let parts = c.as_primitive-nullability in
    let xs = wholes_of c.args.values in
    let other = other_integers c.args.self.now (ptype_of c.args.values) _ xs _ parts.result.1.now parts.result.2 parts.ensures.tree parts.ensures.well_formed c.requires.rows in
    ap (λ valid. primitive_refusal (length xs) valid parts.result.2) c.in_ok-valid.ensures ∙ other.accepted

pub returns : goal.returns
returns c =
    let parts = c.as_primitive-nullability in
    let p = ptype_of c.args.values in
    let xs = wholes_of c.args.values in
    let other = other_integers c.args.self.now p _ xs _ parts.result.1.now parts.result.2 parts.ensures.tree parts.ensures.well_formed c.requires.rows in
    c.primitive_of.ensures ∙ ap (λ valid. primitive p xs (kept valid) parts.result.2) c.in_ok-valid.ensures ∙ other.made
