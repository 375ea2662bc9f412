use Rattle.std.proofs.Common.{◌∙◌, ap, length, sym}
use Rattle.vx_model.specs.Column.{column_of}
use Rattle.vx_model.specs.Refusals.{validity_length}
use Rattle.vx_model.proofs.RowLemmas.{length-primitive}
use Rattle.vx_values.specs.IntsOf.{ptype_of, wholes_of}
use Rattle.vx_selections.proofs.Restricting.{ints_restricted}
use Rattle.vx_selections.proofs.Validities.{own-length}
use Rattle.vx_selections.proofs.masks.roots.restricted_primitive.Goals as goal

pub narrowed-requires-clause-own : goal.narrowed-requires-clause-own
narrowed-requires-clause-own c = ap (validity_length c.args.own) c.len.ensures ∙ own-length c.args.own (length (wholes_of c.args.values)) c.args.nulls c.requires.well.0.validity

pub narrowed-requires-clause-valid : goal.narrowed-requires-clause-valid
narrowed-requires-clause-valid c = ap (validity_length c.args.valid.now) c.len.ensures ∙ ap (validity_length c.args.valid.now) (sym (length-primitive (ptype_of c.args.values) (wholes_of c.args.values) c.args.own c.args.nulls c.requires.well)) ∙ c.requires.bits.long

pub primitive_of-requires : goal.primitive_of-requires
primitive_of-requires c = (ints_restricted (ptype_of c.args.values) (wholes_of c.args.values) c.args.own c.args.nulls c.args.valid.now c.args.nullability c.in_ok-bits.bits c.requires.well c.requires.bits c.in_ok-bits.ensures).accepted

pub returns : goal.returns
returns c = ap column_of c.primitive_of.ensures ∙ (ints_restricted (ptype_of c.args.values) (wholes_of c.args.values) c.args.own c.args.nulls c.args.valid.now c.args.nullability c.in_ok-bits.bits c.requires.well c.requires.bits c.in_ok-bits.ensures).column
