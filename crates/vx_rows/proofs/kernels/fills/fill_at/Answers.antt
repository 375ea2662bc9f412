use Rattle.std.proofs.Common.{◌≡◌, ◌∙◌, ap, sym, map, cond}
use Rattle.std.specs.Prelude.{slice_index_or, slice_set}
use Rattle.std.proofs.lemmas.List.{map-set, get_or-map}
use Rattle.vx_rows.proofs.kernels.fills.fill_at.Goals as goal

pub returns : goal.returns
returns g c =
    let whole = g.T.Integer.whole in
    let fill = whole c.args.fill in
    let items = c.args.items.now in
    let there : whole c.index-items-row.result ≡ slice_index_or (map whole items) c.args.row fill = ap whole c.index-items-row.is ∙ sym (get_or-map whole items c.args.row c.index-items-row.result fill c.requires) in
    map-set whole items c.args.row c.kept_or.result
    ∙ ap (slice_set (map whole items) c.args.row) (c.kept_or.ensures ∙ ap (λ z. cond c.args.bit z fill) there)
