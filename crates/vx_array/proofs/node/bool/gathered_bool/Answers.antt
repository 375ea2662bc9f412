use Rattle.std.proofs.Common.{◌∙◌}
use Rattle.vx_array.proofs.PlainRows.{bool_gathered}
use Rattle.vx_array.proofs.node.bool.gathered_bool.Goals as goal

pub bool_of-requires : goal.bool_of-requires
bool_of-requires c =
    (bool_gathered c.args.ranges.now c.args.values.now c.args.valid.now c.args.nullability c.requires.plain c.requires.well c.in_ok-values.values c.in_ok-valid.valid c.in_ok-values.ensures c.in_ok-valid.ensures).admitted

pub returns : goal.returns
returns c =
    c.bool_of.ensures
    ∙ (bool_gathered c.args.ranges.now c.args.values.now c.args.valid.now c.args.nullability c.requires.plain c.requires.well c.in_ok-values.values c.in_ok-valid.valid c.in_ok-values.ensures c.in_ok-valid.ensures).made
