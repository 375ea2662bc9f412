use Rattle.std.proofs.Common.{◌≡◌, ◌∙◌, ◌-◌, ◌^◌, min, ap, sym, arith}
use Rattle.vx_model.specs.Tree.{of_list}
use Rattle.vx_model.proofs.TreesLemmas.{item_falls}
use Rattle.vx_array.specs.TreeWays.{fields_extent}
use Rattle.vx_flat.specs.Ways.{way_of, field}
use Rattle.vx_flat.proofs.FewWayLemmas.{way_of-Field}
use Rattle.vx_array.proofs.TreeWays.{extent-some, extent-none}
use Rattle.vx_array.proofs.+extent_at.Goals as goal

pub tree_counts::fields_extent-extent_at-requires : goal.tree_counts::fields_extent-extent_at-requires
tree_counts::fields_extent-extent_at-requires t c =
    let falls = item_falls c.args.fields.now c.in-Field.place c.in-Some.field.now (sym c.in-Some.ensures) in
    omega (arith, falls)

pub tree_counts::fields_extent-returns-in-Some : goal.tree_counts::fields_extent-returns-in-Some
tree_counts::fields_extent-returns-in-Some t c =
    let w = way_of c.in-Field.rest.now in
    let own = extent-some c.args.fields.now c.in-Field.place w c.in-Some.field.now (sym c.in-Some.ensures) in
    let way : way_of c.args.way.now ≡ field c.in-Field.place w = ap way_of c.in-Field.is ∙ way_of-Field c.in-Field.place _ in
    c.extent_at.ensures ∙ ap (λ e. min e (2 ^ 64 - 1)) (sym own) ∙ ap (λ v. min (fields_extent v c.args.len (of_list c.args.fields.now)) (2 ^ 64 - 1)) (sym way)

pub tree_counts::fields_extent-returns-in-None : goal.tree_counts::fields_extent-returns-in-None
tree_counts::fields_extent-returns-in-None t c =
    let w = way_of c.in-Field.rest.now in
    let own = extent-none c.args.fields.now c.in-Field.place w (sym c.in-None.ensures) in
    let way : way_of c.args.way.now ≡ field c.in-Field.place w = ap way_of c.in-Field.is ∙ way_of-Field c.in-Field.place _ in
    ap (λ e. min e (2 ^ 64 - 1)) (sym own) ∙ ap (λ v. min (fields_extent v c.args.len (of_list c.args.fields.now)) (2 ^ 64 - 1)) (sym way)
