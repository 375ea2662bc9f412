use Rattle.std.proofs.Common.{◌≡◌, ◌∙◌, ap, map}
use Rattle.std.specs.Int.{w128}
use Rattle.std.specs.Prelude.{slice_set}
use Rattle.std.proofs.lemmas.Int.{to_z-of_z}
use Rattle.std.proofs.lemmas.List.{map-set}
use Rattle.vx_values.proofs.ints.converting.with_whole.Goals as goal

pub returns : goal.returns
returns g c =
    let whole = g.T.Integer.whole in
    let item : whole c.in-Some.item ≡ c.args.whole = c.in-Some.ensures ∙ to_z-of_z w128 c.args.whole c.ranges.whole in
    ap (map whole) c.from_vec.ensures ∙ ap (λ xs. map whole (slice_set xs c.args.row c.in-Some.item)) c.into_vec-items.ensures
    ∙ map-set whole c.args.items c.args.row c.in-Some.item ∙ ap (slice_set (map whole c.args.items) c.args.row) item
