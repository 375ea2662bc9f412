use Rattle.std.proofs.Common.{arith, ◌≡◌, ◌+◌, ◌*◌, ◌/◌, length, map, take, ap, ◌∙◌, false, get_or, refl}
use Rattle.vx_base.specs.Packed.{kept_rows, kept_row, block_count, packed_number, packed_size}
use Rattle.std.proofs.lemmas.List.{length-take-le}
use Rattle.vx_blocks.proofs.Rows.{kept_rows-at, kept_rows-length, kept_row-lt, kept_rows_all, holds-before, next-row-on, next-group-on, place_within}
use Rattle.vx_base.specs.Integers.{bits_in}
use Rattle.vx_blocks.proofs.packing.pack_by.Goals as goal

pub loop-group-init : goal.loop-group-init
loop-group-init g c = holds-before g.row.W c.args.out.items c.requires.words

pub loop-group-preserved : goal.loop-group-preserved
loop-group-preserved g c =
    let f = bits_in g.T.Integer.kind in
    let h = g.T.Integer.whole in
    let rows = kept_rows g.row.W (map f (map h c.args.values.now)) c.args.valid.now in
    let len = kept_rows-length f h g.row.W c.args.values.now c.args.valid.now c.requires.same in
    let long : length (take (8 * g.row.W) c.write_group.new.buffer) ≡ 8 * g.row.W = length-take-le (8 * g.row.W) c.write_group.new.buffer (omega (arith, c.write_group.auto.buffer)) in
    let before = c.args.out.items in
    rw c.in_ok-extend_from_slice.ensures.items
    (next-group-on (packed_number 8 before) (8 * length before) g.row.W rows c.loop-group.group c.loop-group.out.items (take (8 * g.row.W) c.write_group.new.buffer) (omega (arith, len)) long c.write_group.ensures c.loop-group.invariant)

pub put-requires-clause-bits : goal.put-requires-clause-bits
put-requires-clause-bits g c = rw c.fit-bits.ensures (kept_row-lt g.row.W c.to_bits.result (get_or c.args.valid.now c.loop-i.i false))

pub loop-i-preserved : goal.loop-i-preserved
loop-i-preserved g c =
    let f = bits_in g.T.Integer.kind in
    let h = g.T.Integer.whole in
    let rows = kept_rows g.row.W (map f (map h c.args.values.now)) c.args.valid.now in
    let len = kept_rows-length f h g.row.W c.args.values.now c.args.valid.now c.requires.same in
    let valid = get_or c.args.valid.now c.loop-i.i false in
    let is : c.fit-bits.result ≡ kept_row g.row.W (f (h c.index-values-i.result)) valid = c.fit-bits.ensures ∙ ap (λ b. kept_row g.row.W b valid) c.to_bits.ensures.value in
    let at = kept_rows-at f h g.row.W c.args.values.now c.args.valid.now c.loop-i.i c.index-values-i.result c.fit-bits.result c.requires.same c.loop-i-test.true c.index-values-i.is is in
    let before = c.args.out.items in
    next-row-on (packed_number 8 before) (8 * length before) g.row.W rows c.loop-i.i c.fit-bits.result _ _ _ (omega (arith, len)) at (c.in_ok-acc.ensures _ _ c.loop-i.invariant)

pub returns-clause-number : goal.returns-clause-number
returns-clause-number g c =
    let f = bits_in g.T.Integer.kind in
    let h = g.T.Integer.whole in
    let rows = kept_rows g.row.W (map f (map h c.args.values.now)) c.args.valid.now in
    let n = length c.args.values.now in
    let all = kept_rows_all f h g.row.W c.args.values.now c.args.valid.now c.loop-i.i c.requires.same c.loop-i-test.false in
    let end = place_within g.row.W n c.loop-i.i (packed_size g.row.W n) (c.loop-i.auto.i-end (omega arith)) refl in
    c.in_ok-packed.ensures.number _ _ (length c.args.out.items / 8 + 16 * g.row.W * block_count n) (rw all at c.loop-i.invariant) (omega (arith, end, c.requires.size)) (omega (arith, c.requires.words, c.requires.size))
