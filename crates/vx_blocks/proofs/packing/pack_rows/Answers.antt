use Rattle.std.proofs.Common.{arith, ◌≡◌, ◌+◌, ◌*◌, ◌/◌, length, map, ap, ◌∙◌, false, get_or, refl}
use Rattle.vx_base.specs.Packed.{kept_rows, kept_row, block_count, packed_number, packed_size}
use Rattle.vx_blocks.proofs.Rows.{kept_rows-at, kept_rows-length, kept_rows_all, holds-before, next-row-on, place_within}
use Rattle.vx_base.specs.Integers.{bits_in}
use Rattle.vx_blocks.proofs.packing.pack_rows.Goals as goal

pub loop-i-init : goal.loop-i-init
loop-i-init g c = holds-before c.args.width c.args.out.items c.requires.words

pub loop-i-preserved : goal.loop-i-preserved
loop-i-preserved g c =
    let f = bits_in g.T.Integer.kind in
    let h = g.T.Integer.whole in
    let rows = kept_rows c.args.width (map f (map h c.args.values.now)) c.args.valid.now in
    let len = kept_rows-length f h c.args.width c.args.values.now c.args.valid.now c.requires.same in
    let valid = get_or c.args.valid.now c.loop-i.i false in
    let is : c.fit-bits.result ≡ kept_row c.args.width (f (h c.index-values-i.result)) valid = c.fit-bits.ensures ∙ ap (λ b. kept_row c.args.width b valid) c.to_bits.ensures.value in
    let at = kept_rows-at f h c.args.width c.args.values.now c.args.valid.now c.loop-i.i c.index-values-i.result c.fit-bits.result c.requires.same c.loop-i-test.true c.index-values-i.is is in
    let before = c.args.out.items in
    next-row-on (packed_number 8 before) (8 * length before) c.args.width rows c.loop-i.i c.fit-bits.result _ _ _ (omega (arith, len)) at (c.in_ok-acc.ensures _ _ c.loop-i.invariant)

pub returns-clause-number : goal.returns-clause-number
returns-clause-number g c =
    let f = bits_in g.T.Integer.kind in
    let h = g.T.Integer.whole in
    let rows = kept_rows c.args.width (map f (map h c.args.values.now)) c.args.valid.now in
    let n = length c.args.values.now in
    let all = kept_rows_all f h c.args.width c.args.values.now c.args.valid.now c.loop-i.i c.requires.same c.loop-i-test.false in
    let end = place_within c.args.width n c.loop-i.i (packed_size c.args.width n) c.loop-i.auto.i-end refl in
    c.in_ok-packed.ensures.number _ _ (length c.args.out.items / 8 + 16 * c.args.width * block_count n) (rw all at c.loop-i.invariant) (omega (arith, end, c.requires.size)) (omega (arith, c.requires.words, c.requires.size))
