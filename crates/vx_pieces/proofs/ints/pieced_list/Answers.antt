use Rattle.std.proofs.Common.{◌∙◌, ap, map}
use Rattle.std.specs.Int.{w128}
use Rattle.std.proofs.lemmas.Int.{to_z-of_z}
use Rattle.vx_pieces.specs.Pieces.{pieced}
use Rattle.vx_pieces.proofs.PieceLemmas.{map-pieced}
use Rattle.vx_pieces.proofs.ints.pieced_list.Goals as goal

pub returns : goal.returns
returns g c =
    let whole = g.T.Integer.whole in
    let pieces = c.args.pieces.now in
    let items = c.args.items.now in
    ap (map whole) (c.from_vec.ensures ∙ c.in_ok-pieced.ensures ∙ ap (pieced c.in-Some.item pieces) c.as_slice.ensures) ∙ map-pieced whole c.in-Some.item pieces items
    ∙ ap (λ z. pieced z pieces (map whole items)) (c.in-Some.ensures ∙ to_z-of_z w128 c.args.filling c.ranges.filling)
