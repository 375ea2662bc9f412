use Rattle.std.proofs.Common.{map, arith}
use Rattle.std.proofs.lemmas.List.{length-map}
use Rattle.vx_base.specs.PlainValue.{int}
use Rattle.vx_values.proofs.Placed.{patched-resized, patched-next, patched-all, length-patched}
use Rattle.vx_values.proofs.patch_rows.write_patches.Goals as goal

pub loop-place-init : goal.loop-place-init
loop-place-init g c =
    patched-resized (map int (map g.C.Integer.whole c.args.indices.now)) c.args.offset c.args.len c.args.items.now c.args.fill c.resize.new.self.items c.in_ok-rows.rows.items c.in_ok-rows.rows.len c.in_ok-rows.ensures.items c.in_ok-rows.ensures.len
    c.in_ok-resize.ensures.items

pub index_mut-requires : goal.index_mut-requires
index_mut-requires g c =
    let is = map int (map g.C.Integer.whole c.args.indices.now) in
    let long = length-patched is c.args.offset c.args.len c.args.items.now c.args.fill c.loop-place.rows.items c.loop-place.place c.loop-place.invariant in
    omega (arith, long, c.patch_row-row.ensures.within)

pub loop-place-preserved : goal.loop-place-preserved
loop-place-preserved g c =
    let zs = map g.C.Integer.whole c.args.indices.now in
    let is = map int zs in
    let items = c.args.items.now in
    let place = c.loop-place.place in
    patched-next is c.args.offset c.args.len items c.args.fill c.loop-place.rows.items place c.patch_row-row.result c.index-items-place.result c.requires.rising
    (omega (arith, length-map zs int, length-map c.args.indices.now g.C.Integer.whole, c.requires.lengths, c.loop-place-test.true)) c.patch_row-row.ensures.row c.patch_row-row.ensures.within c.index-items-place.is (omega arith) c.loop-place.invariant

pub returns : goal.returns
returns g c =
    patched-all (map int (map g.C.Integer.whole c.args.indices.now)) c.args.offset c.args.len c.args.items.now c.args.fill c.loop-place.rows.items c.loop-place.place (omega (arith, c.loop-place-test.false)) c.loop-place.invariant
