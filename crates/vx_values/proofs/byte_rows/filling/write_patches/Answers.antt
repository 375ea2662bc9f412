use Rattle.std.proofs.Common.{◌≡◌, ◌∙◌, map, get_or, subst, sym, arith}
use Rattle.std.proofs.lemmas.List.{length-map}
use Rattle.vx_base.specs.PlainValue.{int}
use Rattle.vx_values.proofs.Placed.{patched-none, patched-next, patched-all, length-patched}
use Rattle.vx_values.proofs.byte_rows.filling.write_patches.Goals as goal

pub loop-place-init : goal.loop-place-init
loop-place-init g c =
    patched-none (map int (map g.C.Integer.whole c.args.indices.now)) c.args.offset c.args.len c.args.patches.now c.args.fill.now c.into_vec-rows.result.items (c.into_vec-rows.ensures ∙ c.in_ok-filled.ensures)

pub index_mut-requires : goal.index_mut-requires
index_mut-requires g c =
    let is = map int (map g.C.Integer.whole c.args.indices.now) in
    let long = length-patched is c.args.offset c.args.len c.args.patches.now c.args.fill.now c.loop-place.rows.items c.loop-place.place c.loop-place.invariant in
    omega (arith, long, c.patch_row-row.ensures.within)

pub loop-place-preserved : goal.loop-place-preserved
loop-place-preserved g c =
    let zs = map g.C.Integer.whole c.args.indices.now in
    let is = map int zs in
    let patches = c.args.patches.now in
    let place = c.loop-place.place in
    patched-next is c.args.offset c.args.len patches c.args.fill.now c.loop-place.rows.items place c.patch_row-row.result c.in_ok-rows.field-0 c.requires.rising
    (omega (arith, length-map zs int, length-map c.args.indices.now g.C.Integer.whole, c.requires.lengths, c.loop-place-test.true)) c.patch_row-row.ensures.row c.patch_row-row.ensures.within
    (subst (λ row. row ≡ get_or patches place row) (sym c.in_ok-rows.ensures) c.index-patches-place.is) (omega arith) c.loop-place.invariant

pub returns : goal.returns
returns g c =
    c.from_vec.ensures
    ∙ patched-all (map int (map g.C.Integer.whole c.args.indices.now)) c.args.offset c.args.len c.args.patches.now c.args.fill.now c.loop-place.rows.items c.loop-place.place (omega (arith, c.loop-place-test.false)) c.loop-place.invariant
