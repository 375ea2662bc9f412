use Rattle.std.proofs.Common.{◌∙◌, ap, sym, arith}
use Rattle.std.specs.Int.{w128}
use Rattle.std.proofs.lemmas.Int.{to_z-of_z}
use Rattle.std.proofs.lemmas.List.{take_all}
use Rattle.vx_base.specs.PlainValue.{int}
use Rattle.vx_model.specs.Leaf.{each_null_or}
use Rattle.vx_values.proofs.Cells.{length-rows_of}
use Rattle.vx_values.proofs.ints.one_value.each_null_or.Goals as goal

pub returns : goal.returns
returns g c =
    let long = length-rows_of g.T.Integer.whole c.args.items.now c.args.valid.now c.requires in
    let so_far = rw (to_z-of_z w128 c.args.whole c.ranges.whole) at c.loop-row.invariant in
    sym so_far ∙ ap (each_null_or (int c.args.whole)) (take_all c.loop-row.row _ (omega (arith, long)))
