use Rattle.std.proofs.Common.{◌∙◌, ap, length}
use Rattle.vx_base.specs.PlainType.{nullability_of}
use Rattle.vx_model.specs.Column.{column_of}
use Rattle.vx_model.specs.Refusals.{validity_length}
use Rattle.vx_base.specs.TypeOf.{type_of}
use Rattle.vx_selections.proofs.ChosenLeaves.{view_kept}
use Rattle.vx_selections.proofs.Validities.{own-length}
use Rattle.vx_selections.proofs.filters.stored.kept_view.Goals as goal

pub kept_validity-requires : goal.kept_validity-requires
kept_validity-requires c = ap (validity_length c.args.valid.now) c.requires.bits ∙ own-length c.args.valid.now (length c.args.values.now) (nullability_of (type_of c.args.dtype.now)) c.requires.well.0.validity

pub var_bin_view_of-requires : goal.var_bin_view_of-requires
var_bin_view_of-requires c = (view_kept c.args.bits.now c.args.values.now c.args.valid.now (type_of c.args.dtype.now) c.in_ok-kept.kept c.in_ok-valid.valid (type_of c.in_ok-dtype.dtype) c.requires.well c.in_ok-kept.ensures c.in_ok-valid.ensures c.in_ok-dtype.ensures).accepted

pub returns : goal.returns
returns c = ap column_of c.var_bin_view_of.ensures ∙ (view_kept c.args.bits.now c.args.values.now c.args.valid.now (type_of c.args.dtype.now) c.in_ok-kept.kept c.in_ok-valid.valid (type_of c.in_ok-dtype.dtype) c.requires.well c.in_ok-kept.ensures c.in_ok-valid.ensures c.in_ok-dtype.ensures).column
