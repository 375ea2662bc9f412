use Rattle.std.proofs.Common.{◌≡◌, ◌∙◌, ◌-◌, ◌^◌, min, length, ap, sym, arith}
use Rattle.vx_model.specs.Rows.{rows}
use Rattle.vx_model.specs.Tree.{of_list}
use Rattle.vx_model.proofs.ListLemmas.{length-list}
use Rattle.vx_model.proofs.TreesLemmas.{item_falls}
use Rattle.vx_array.specs.TreeWays.{extent_at, fields_extent, items_extent}
use Rattle.vx_flat.specs.Ways.{way_of, field}
use Rattle.vx_flat.proofs.FewWayLemmas.{way_of-Field}
use Rattle.vx_array.proofs.TreeWays.{extent-some, extent-none}
use Rattle.vx_document.proofs.AtRoots.{at_root}
use Rattle.vx_document.proofs.Extents.{extent-list}
use Rattle.vx_document.proofs.writing.extents.+extent.Goals as goal

pub fields_extent-extent_at-requires : goal.fields_extent-extent_at-requires
fields_extent-extent_at-requires t c =
    let falls = item_falls c.args.fields.now c.in-Field.place c.in-Some.field.now (sym c.in-Some.ensures) in
    omega (arith, falls)

pub fields_extent-returns-in-Some : goal.fields_extent-returns-in-Some
fields_extent-returns-in-Some t c =
    let w = way_of c.in-Field.rest.now in
    let own = extent-some c.args.fields.now c.in-Field.place w c.in-Some.field.now (sym c.in-Some.ensures) in
    let way : way_of c.args.way.now ≡ field c.in-Field.place w = ap way_of c.in-Field.is ∙ way_of-Field c.in-Field.place _ in
    c.extent_at.ensures ∙ ap (λ e. min e (2 ^ 64 - 1)) (sym own) ∙ ap (λ v. min (fields_extent v c.args.len (of_list c.args.fields.now)) (2 ^ 64 - 1)) (sym way)

pub fields_extent-returns-in-None : goal.fields_extent-returns-in-None
fields_extent-returns-in-None t c =
    let w = way_of c.in-Field.rest.now in
    let own = extent-none c.args.fields.now c.in-Field.place w (sym c.in-None.ensures) in
    let way : way_of c.args.way.now ≡ field c.in-Field.place w = ap way_of c.in-Field.is ∙ way_of-Field c.in-Field.place _ in
    ap (λ e. min e (2 ^ 64 - 1)) (sym own) ∙ ap (λ v. min (fields_extent v c.args.len (of_list c.args.fields.now)) (2 ^ 64 - 1)) (sym way)

pub extent_at-returns-in-List : goal.extent_at-returns-in-List
extent_at-returns-in-List t c =
    let here = c.in-List in
    let a = at_root c.node.ensures.tree c.node.ensures.well_formed here.is in
    let w = way_of c.args.way.now in
    let len = c.len.ensures ∙ ap (λ tree. length (rows tree)) a.is ∙ length-list _ _ _ _ a.well_formed in
    c.items_extent.ensures ∙ (λ i. min (items_extent w (len i) (c.deref-in-List.ensures i)) (2 ^ 64 - 1))
    ∙ ap (λ e. min e (2 ^ 64 - 1)) (extent-list w here.elements.array.value here.field-1.array.value here.field-2 here.field-3 ∙ ap (extent_at w) (sym a.is))
