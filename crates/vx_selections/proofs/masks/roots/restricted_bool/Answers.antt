use Rattle.std.proofs.Common.{◌∙◌, ap, length, sym}
use Rattle.vx_model.specs.Column.{column_of}
use Rattle.vx_model.specs.Refusals.{validity_length}
use Rattle.vx_model.proofs.BoolLemmas.{length-bool}
use Rattle.vx_selections.proofs.Restricting.{bool_restricted}
use Rattle.vx_selections.proofs.Validities.{own-length}
use Rattle.vx_selections.proofs.masks.roots.restricted_bool.Goals as goal

pub narrowed-requires-clause-own : goal.narrowed-requires-clause-own
narrowed-requires-clause-own c = ap (validity_length c.args.own) c.len.ensures ∙ own-length c.args.own (length c.args.values) c.args.nulls c.requires.well.0

pub narrowed-requires-clause-valid : goal.narrowed-requires-clause-valid
narrowed-requires-clause-valid c = ap (validity_length c.args.valid.now) c.len.ensures ∙ ap (validity_length c.args.valid.now) (sym (length-bool c.args.values c.args.own c.args.nulls c.requires.well)) ∙ c.requires.bits.long

pub bool_of-requires : goal.bool_of-requires
bool_of-requires c = (bool_restricted c.args.values c.args.own c.args.nulls c.args.valid.now c.args.nullability c.in_ok-bits.bits c.requires.well c.requires.bits c.in_ok-bits.ensures).accepted

pub returns : goal.returns
returns c = ap column_of c.bool_of.ensures ∙ (bool_restricted c.args.values c.args.own c.args.nulls c.args.valid.now c.args.nullability c.in_ok-bits.bits c.requires.well c.requires.bits c.in_ok-bits.ensures).column
