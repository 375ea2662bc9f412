use Rattle.std.proofs.Common.{◌∙◌, map, take, ap, sym}
use Rattle.std.proofs.lemmas.List.{take-map}
use Rattle.vx_values.proofs.ints.deltas.first_items.Goals as goal

pub returns : goal.returns
returns g c =
    let whole = g.T.Integer.whole in
    ap (map whole) (c.from_vec.ensures ∙ c.truncate.ensures.items ∙ ap (take c.args.len) c.into_vec-items.ensures) ∙ sym (take-map whole c.args.len c.args.items)
