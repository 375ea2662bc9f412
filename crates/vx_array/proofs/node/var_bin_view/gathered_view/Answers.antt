use Rattle.std.proofs.Common.{◌∙◌}
use Rattle.vx_base.specs.TypeOf.{type_of}
use Rattle.vx_array.proofs.PlainRows.{views_gathered}
use Rattle.vx_array.proofs.node.var_bin_view.gathered_view.Goals as goal

pub var_bin_view_of-requires : goal.var_bin_view_of-requires
var_bin_view_of-requires c =
    (views_gathered c.args.ranges.now c.args.values.now c.args.valid.now (type_of c.args.dtype.now) c.requires.plain c.requires.well _ c.in_ok-valid.valid _ c.in_ok-values.ensures c.in_ok-valid.ensures c.in_ok-dtype.ensures).admitted

pub returns : goal.returns
returns c =
    c.var_bin_view_of.ensures
    ∙ (views_gathered c.args.ranges.now c.args.values.now c.args.valid.now (type_of c.args.dtype.now) c.requires.plain c.requires.well _ c.in_ok-valid.valid _ c.in_ok-values.ensures c.in_ok-valid.ensures c.in_ok-dtype.ensures).made
