use Rattle.std.proofs.Common.{◌∙◌, ap, length}
use Rattle.vx_model.specs.Column.{column_of}
use Rattle.vx_model.specs.Refusals.{kept, primitive_refusal}
use Rattle.vx_model.specs.Tree.{bool}
use Rattle.vx_values.specs.Codes.{validity_by_codes}
use Rattle.vx_values.specs.IntsOf.{ptype_of, wholes_of}
use Rattle.vx_selections.proofs.TakenColumns.{bool_taken}
use Rattle.vx_selections.proofs.takes.stored.taken_bool.Goals as goal

pub bool_of-requires : goal.bool_of-requires
bool_of-requires c = ap (primitive_refusal (length c.in_ok-picked.picked) c.in_ok-bits.bits) c.or.ensures ∙ (bool_taken (ptype_of c.args.codes.now) (wholes_of c.args.codes.now) c.args.valid.now c.args.nulls c.requires.codes c.args.values.now c.args.own.now c.args.nullability c.requires.well c.requires.places c.in_ok-picked.picked c.in_ok-bits.bits c.in_ok-picked.ensures (c.in_ok-bits.ensures ∙ ap (λ v. validity_by_codes (ptype_of c.args.codes.now) (wholes_of c.args.codes.now) v c.args.own.now) c.in_ok-valid.ensures)).accepted

pub returns : goal.returns
returns c = ap column_of (c.bool_of.ensures ∙ ap (λ m. bool c.in_ok-picked.picked (kept c.in_ok-bits.bits) m) c.or.ensures) ∙ (bool_taken (ptype_of c.args.codes.now) (wholes_of c.args.codes.now) c.args.valid.now c.args.nulls c.requires.codes c.args.values.now c.args.own.now c.args.nullability c.requires.well c.requires.places c.in_ok-picked.picked c.in_ok-bits.bits c.in_ok-picked.ensures (c.in_ok-bits.ensures ∙ ap (λ v. validity_by_codes (ptype_of c.args.codes.now) (wholes_of c.args.codes.now) v c.args.own.now) c.in_ok-valid.ensures)).column
