use Rattle.std.proofs.Common.{◌∙◌, ap, length}
use Rattle.vx_model.specs.Column.{column_of}
use Rattle.vx_model.specs.Refusals.{kept, primitive_refusal}
use Rattle.vx_model.specs.Tree.{primitive}
use Rattle.vx_values.specs.Codes.{validity_by_codes}
use Rattle.vx_values.specs.IntsOf.{ptype_of, wholes_of}
use Rattle.vx_selections.proofs.TakenColumns.{ints_taken}
use Rattle.vx_selections.proofs.takes.stored.taken_primitive.Goals as goal

pub primitive_of-requires : goal.primitive_of-requires
primitive_of-requires c = ap (primitive_refusal (length (wholes_of c.in_ok-picked.picked)) c.in_ok-bits.bits) c.or.ensures ∙ (ints_taken (ptype_of c.args.codes.now) (wholes_of c.args.codes.now) c.args.valid.now c.args.nulls c.requires.codes (ptype_of c.args.values.now) (wholes_of c.args.values.now) c.args.own.now c.args.nullability c.requires.well c.requires.places (ptype_of c.in_ok-picked.picked) (wholes_of c.in_ok-picked.picked) c.in_ok-bits.bits c.in_ok-picked.ensures.0 c.in_ok-picked.ensures.1 (c.in_ok-bits.ensures ∙ ap (λ v. validity_by_codes (ptype_of c.args.codes.now) (wholes_of c.args.codes.now) v c.args.own.now) c.in_ok-valid.ensures)).accepted

pub returns : goal.returns
returns c = ap column_of (c.primitive_of.ensures ∙ ap (λ m. primitive (ptype_of c.in_ok-picked.picked) (wholes_of c.in_ok-picked.picked) (kept c.in_ok-bits.bits) m) c.or.ensures) ∙ (ints_taken (ptype_of c.args.codes.now) (wholes_of c.args.codes.now) c.args.valid.now c.args.nulls c.requires.codes (ptype_of c.args.values.now) (wholes_of c.args.values.now) c.args.own.now c.args.nullability c.requires.well c.requires.places (ptype_of c.in_ok-picked.picked) (wholes_of c.in_ok-picked.picked) c.in_ok-bits.bits c.in_ok-picked.ensures.0 c.in_ok-picked.ensures.1 (c.in_ok-bits.ensures ∙ ap (λ v. validity_by_codes (ptype_of c.args.codes.now) (wholes_of c.args.codes.now) v c.args.own.now) c.in_ok-valid.ensures)).column
