use Rattle.std.proofs.Common.{◌∙◌, ap, map}
use Rattle.vx_rules.specs.Selections.{kept_items}
use Rattle.vx_selections.proofs.KeptItems.{map-kept}
use Rattle.vx_selections.proofs.filters.kernels.kept_list.Goals as goal

pub returns : goal.returns
returns g c =
    let whole = g.T.Integer.whole in
    ap (map whole) (c.from_vec.ensures ∙ c.in_ok-kept_copies.ensures ∙ ap (kept_items c.args.bits.now) c.as_slice.ensures) ∙ map-kept whole c.args.bits.now c.args.items.now
