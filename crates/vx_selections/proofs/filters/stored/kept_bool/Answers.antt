use Rattle.std.proofs.Common.{◌∙◌, ap, length}
use Rattle.vx_model.specs.Column.{column_of}
use Rattle.vx_model.specs.Refusals.{validity_length}
use Rattle.vx_selections.proofs.ChosenLeaves.{bool_kept}
use Rattle.vx_selections.proofs.Validities.{own-length}
use Rattle.vx_selections.proofs.filters.stored.kept_bool.Goals as goal

pub kept_validity-requires : goal.kept_validity-requires
kept_validity-requires c = ap (validity_length c.args.valid.now) c.requires.bits ∙ own-length c.args.valid.now (length c.args.values.now) c.args.nullability c.requires.well.0

pub bool_of-requires : goal.bool_of-requires
bool_of-requires c = (bool_kept c.args.bits.now c.args.values.now c.args.valid.now c.args.nullability c.in_ok-kept.kept c.in_ok-valid.valid c.requires.well c.in_ok-kept.ensures c.in_ok-valid.ensures).accepted

pub returns : goal.returns
returns c = ap column_of c.bool_of.ensures ∙ (bool_kept c.args.bits.now c.args.values.now c.args.valid.now c.args.nullability c.in_ok-kept.kept c.in_ok-valid.valid c.requires.well c.in_ok-kept.ensures c.in_ok-valid.ensures).column
