use Rattle.std.proofs.Common.{◌∙◌, ap, length}
use Rattle.vx_model.specs.Column.{column_of}
use Rattle.vx_model.specs.Refusals.{validity_length}
use Rattle.vx_values.specs.IntsOf.{ptype_of, wholes_of}
use Rattle.vx_selections.proofs.ChosenLeaves.{ints_kept}
use Rattle.vx_selections.proofs.Validities.{own-length}
use Rattle.vx_selections.proofs.filters.stored.kept_primitive.Goals as goal

pub kept_validity-requires : goal.kept_validity-requires
kept_validity-requires c = ap (validity_length c.args.valid.now) c.requires.bits ∙ own-length c.args.valid.now (length (wholes_of c.args.values.now)) c.args.nullability c.requires.well.0.validity

pub primitive_of-requires : goal.primitive_of-requires
primitive_of-requires c = (ints_kept c.args.bits.now (ptype_of c.args.values.now) (wholes_of c.args.values.now) c.args.valid.now c.args.nullability (ptype_of c.in_ok-kept.kept) (wholes_of c.in_ok-kept.kept) c.in_ok-valid.valid c.requires.well c.in_ok-kept.ensures.0 c.in_ok-kept.ensures.1 c.in_ok-valid.ensures).accepted

pub returns : goal.returns
returns c = ap column_of c.primitive_of.ensures ∙ (ints_kept c.args.bits.now (ptype_of c.args.values.now) (wholes_of c.args.values.now) c.args.valid.now c.args.nullability (ptype_of c.in_ok-kept.kept) (wholes_of c.in_ok-kept.kept) c.in_ok-valid.valid c.requires.well c.in_ok-kept.ensures.0 c.in_ok-kept.ensures.1 c.in_ok-valid.ensures).column
