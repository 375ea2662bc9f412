use Rattle.std.proofs.Common.{◌≡◌, ◌∙◌, ap, sym, map, pos, cond}
use Rattle.std.specs.Prelude.{slice_index_or, slice_set}
use Rattle.std.proofs.lemmas.List.{map-set, get_or-map}
use Rattle.vx_values.proofs.ints.zeroing.zero_at.Goals as goal

pub returns : goal.returns
returns g c =
    let whole = g.T.Integer.whole in
    let items = c.args.items.now in
    let there : whole c.index-items-row.result ≡ slice_index_or (map whole items) c.args.row (pos 0) = ap whole c.index-items-row.is ∙ sym (get_or-map whole items c.args.row c.index-items-row.result (pos 0) c.requires) in
    map-set whole items c.args.row c.kept_or_zero.result
    ∙ ap (slice_set (map whole items) c.args.row) (c.kept_or_zero.ensures ∙ ap (λ z. cond c.args.bit z (pos 0)) there)
