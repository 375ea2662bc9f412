use Rattle.std.proofs.Common.{◌∙◌, ap, length}
use Rattle.vx_model.specs.Column.{column_of}
use Rattle.vx_model.specs.Refusals.{validity_length}
use Rattle.vx_values.specs.IntsOf.{ptype_of, wholes_of}
use Rattle.vx_selections.proofs.ChosenLeaves.{ints_sliced}
use Rattle.vx_selections.proofs.Validities.{own-length}
use Rattle.vx_selections.proofs.slices.stored.part_primitive.Goals as goal

pub part_validity-requires-clause-bits : goal.part_validity-requires-clause-bits
part_validity-requires-clause-bits c = ap (validity_length c.args.valid.now) c.len.ensures ∙ own-length c.args.valid.now (length (wholes_of c.args.values.now)) c.args.nullability c.requires.well.0.validity

pub primitive_of-requires : goal.primitive_of-requires
primitive_of-requires c = (ints_sliced c.args.start c.args.end (ptype_of c.args.values.now) (wholes_of c.args.values.now) c.args.valid.now c.args.nullability (ptype_of c.in_ok-part.part) (wholes_of c.in_ok-part.part) c.in_ok-valid.valid c.requires.well c.in_ok-part.ensures.0 c.in_ok-part.ensures.1 c.in_ok-valid.ensures).accepted

pub returns : goal.returns
returns c = ap column_of c.primitive_of.ensures ∙ (ints_sliced c.args.start c.args.end (ptype_of c.args.values.now) (wholes_of c.args.values.now) c.args.valid.now c.args.nullability (ptype_of c.in_ok-part.part) (wholes_of c.in_ok-part.part) c.in_ok-valid.valid c.requires.well c.in_ok-part.ensures.0 c.in_ok-part.ensures.1 c.in_ok-valid.ensures).column
