use Rattle.std.proofs.Common.{◌∙◌, ap, length, Some, []}
use Rattle.vx_base.specs.PlainType.{nullability_of}
use Rattle.vx_base.specs.PlainValue.{bytes}
use Rattle.vx_base.specs.TypeOf.{type_of}
use Rattle.vx_model.specs.Column.{column_of}
use Rattle.vx_model.specs.Refusals.{validity_length}
use Rattle.vx_selections.proofs.Masking.{view_masked, zeroed_long}
use Rattle.vx_selections.proofs.Validities.{own-length}
use Rattle.vx_selections.proofs.masks.stored.masked_view.Goals as goal

pub also-requires : goal.also-requires
also-requires c = ap (validity_length c.args.own.now) c.requires.bits ∙ own-length c.args.own.now (length c.args.values.now) (nullability_of (type_of c.args.dtype.now)) c.requires.well.0.validity

pub decoded-requires : goal.decoded-requires
decoded-requires c = ap (λ b. validity_length (Some b) (length c.args.values.now)) c.in_ok-bits.ensures ∙ zeroed_long bytes [] c.args.own.now c.args.keep.now c.args.values.now (nullability_of (type_of c.args.dtype.now)) c.requires.well.0.validity c.requires.bits

pub var_bin_view_of-requires : goal.var_bin_view_of-requires
var_bin_view_of-requires c = (view_masked c.args.values.now c.args.own.now (type_of c.args.dtype.now) c.args.keep.now c.in_ok-values.values c.in_ok-bits.bits (type_of c.in_ok-dtype.dtype) c.requires.well c.requires.bits c.in_ok-bits.ensures c.in_ok-values.ensures c.in_ok-dtype.ensures).accepted

pub returns : goal.returns
returns c = ap column_of c.var_bin_view_of.ensures ∙ (view_masked c.args.values.now c.args.own.now (type_of c.args.dtype.now) c.args.keep.now c.in_ok-values.values c.in_ok-bits.bits (type_of c.in_ok-dtype.dtype) c.requires.well c.requires.bits c.in_ok-bits.ensures c.in_ok-values.ensures c.in_ok-dtype.ensures).column
