use Rattle.std.proofs.Common.{◌∙◌, map}
use Rattle.std.specs.Int.{w128}
use Rattle.std.proofs.lemmas.Int.{to_z-of_z}
use Rattle.vx_base.specs.PlainValue.{int}
use Rattle.vx_values.specs.IntsOf.{wholes_of}
use Rattle.vx_values.proofs.Placed.{stand-by_patches}
use Rattle.vx_values.proofs.ints.filling.list_with_patches.Goals as goal

pub returns : goal.returns
returns g c =
    stand-by_patches g.T.Integer.whole (map int (wholes_of c.args.indices.now)) c.args.offset c.args.len c.args.items.now c.from_vec.result c.item_of.result c.args.fill (c.from_vec.ensures ∙ c.in_ok-rows.ensures)
    (c.item_of.ensures ∙ to_z-of_z w128 c.args.fill c.ranges.fill)
