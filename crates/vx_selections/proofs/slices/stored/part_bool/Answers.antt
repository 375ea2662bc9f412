use Rattle.std.proofs.Common.{◌∙◌, ap, length}
use Rattle.vx_model.specs.Column.{column_of}
use Rattle.vx_model.specs.Refusals.{validity_length}
use Rattle.vx_selections.proofs.ChosenLeaves.{bool_sliced}
use Rattle.vx_selections.proofs.Validities.{own-length}
use Rattle.vx_selections.proofs.slices.stored.part_bool.Goals as goal

pub part_validity-requires-clause-bits : goal.part_validity-requires-clause-bits
part_validity-requires-clause-bits c = ap (validity_length c.args.valid.now) c.len.ensures ∙ own-length c.args.valid.now (length c.args.values.now) c.args.nullability c.requires.well.0

pub bool_of-requires : goal.bool_of-requires
bool_of-requires c = (bool_sliced c.args.start c.args.end c.args.values.now c.args.valid.now c.args.nullability c.in_ok-part.part c.in_ok-valid.valid c.requires.well c.in_ok-part.ensures c.in_ok-valid.ensures).accepted

pub returns : goal.returns
returns c = ap column_of c.bool_of.ensures ∙ (bool_sliced c.args.start c.args.end c.args.values.now c.args.valid.now c.args.nullability c.in_ok-part.part c.in_ok-valid.valid c.requires.well c.in_ok-part.ensures c.in_ok-valid.ensures).column
