use Rattle.std.proofs.Common.{◌∙◌, ap, length, sym}
use Rattle.vx_base.specs.PlainType.{nullability_of}
use Rattle.vx_base.specs.TypeOf.{type_of}
use Rattle.vx_model.specs.Column.{column_of}
use Rattle.vx_model.specs.Refusals.{validity_length}
use Rattle.vx_model.proofs.ViewLemmas.{length-var_bin_view}
use Rattle.vx_selections.proofs.Restricting.{view_restricted}
use Rattle.vx_selections.proofs.Validities.{own-length}
use Rattle.vx_selections.proofs.masks.roots.restricted_view.Goals as goal

pub narrowed-requires-clause-own : goal.narrowed-requires-clause-own
narrowed-requires-clause-own c = ap (validity_length c.args.own) c.len.ensures ∙ own-length c.args.own (length c.args.values) (nullability_of (type_of c.args.dtype)) c.requires.well.0.validity

pub narrowed-requires-clause-valid : goal.narrowed-requires-clause-valid
narrowed-requires-clause-valid c = ap (validity_length c.args.valid.now) c.len.ensures ∙ ap (validity_length c.args.valid.now) (sym (length-var_bin_view c.args.values c.args.own (type_of c.args.dtype) c.requires.well)) ∙ c.requires.bits.long

pub var_bin_view_of-requires : goal.var_bin_view_of-requires
var_bin_view_of-requires c = (view_restricted c.args.values c.args.own (type_of c.args.dtype) c.args.valid.now c.args.nullability c.in_ok-bits.bits (type_of c.in_ok-wider.wider) c.requires.well c.requires.bits c.in_ok-bits.ensures c.in_ok-wider.ensures).accepted

pub returns : goal.returns
returns c = ap column_of c.var_bin_view_of.ensures ∙ (view_restricted c.args.values c.args.own (type_of c.args.dtype) c.args.valid.now c.args.nullability c.in_ok-bits.bits (type_of c.in_ok-wider.wider) c.requires.well c.requires.bits c.in_ok-bits.ensures c.in_ok-wider.ensures).column
