use Rattle.std.proofs.Common.{◌∙◌, ap, length}
use Rattle.vx_model.specs.Column.{column_of}
use Rattle.vx_model.specs.Refusals.{kept, primitive_refusal}
use Rattle.vx_model.specs.Tree.{bool}
use Rattle.vx_rows.proofs.RetypeLemmas.{bool-accepted, bool-made}
use Rattle.vx_rows.proofs.casting.retyping.retyped_bool.Goals as goal

pub bool_of-requires : goal.bool_of-requires
bool_of-requires c =
    (λ i. primitive_refusal (length (c.in_ok-items.ensures i)) (c.in_ok-bits.ensures i) c.args.nullability)
    ∙ bool-accepted c.args.values.now c.args.valid.now c.args.own c.args.nullability c.requires.well c.requires.fit

pub returns : goal.returns
returns c =
    ap column_of c.bool_of.ensures
    ∙ (λ i. column_of (bool (c.in_ok-items.ensures i) (kept (c.in_ok-bits.ensures i)) c.args.nullability))
    ∙ bool-made c.args.values.now c.args.valid.now c.args.own c.args.nullability c.requires.well c.requires.fit
