use Rattle.std.proofs.Common.{◌∙◌}
use Rattle.vx_values.specs.IntsOf.{ptype_of, wholes_of}
use Rattle.vx_array.proofs.PlainRows.{ints_gathered}
use Rattle.vx_array.proofs.node.primitive.gathered_primitive.Goals as goal

pub primitive_of-requires : goal.primitive_of-requires
primitive_of-requires c =
    let xs = c.args.values.now in
    let ys = c.in_ok-values.values in
    (ints_gathered c.args.ranges.now (ptype_of xs) (wholes_of xs) c.args.valid.now c.args.nullability c.requires.plain c.requires.well (ptype_of ys) (wholes_of ys) c.in_ok-valid.valid c.in_ok-values.ensures.0 c.in_ok-values.ensures.1 c.in_ok-valid.ensures).admitted

pub returns : goal.returns
returns c =
    let xs = c.args.values.now in
    let ys = c.in_ok-values.values in
    c.primitive_of.ensures
    ∙ (ints_gathered c.args.ranges.now (ptype_of xs) (wholes_of xs) c.args.valid.now c.args.nullability c.requires.plain c.requires.well (ptype_of ys) (wholes_of ys) c.in_ok-valid.valid c.in_ok-values.ensures.0 c.in_ok-values.ensures.1 c.in_ok-valid.ensures).made
