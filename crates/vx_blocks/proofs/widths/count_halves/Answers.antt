use Rattle.std.proofs.Common.{arith, refl, length, ◌≡◌, ◌+◌, ◌-◌, ◌/◌, map, take, drop, subst}
use Rattle.std.proofs.lemmas.List.{take_more, take_all, length-take, length-drop, get_or-drop}
use Rattle.vx_base.specs.Packed.{kept_rows}
use Rattle.vx_base.specs.Integers.{bits_in, bits_of}
use Rattle.vx_blocks.specs.Histogram.{AreByZeros}
use Rattle.vx_blocks.proofs.Rows.{kept_rows-at, kept_rows-length}
use Rattle.vx_blocks.proofs.widths.count_halves.Goals as goal

pub loop-i-init : goal.loop-i-init
loop-i-init g c = record { first = c.requires.first; second = c.requires.second }

pub loop-i-preserved : goal.loop-i-preserved
loop-i-preserved g c =
    let f = bits_in g.T.Integer.kind in
    let h = g.T.Integer.whole in
    let rows = kept_rows 64 (map f (map h c.args.values.now)) c.args.valid.now in
    let len = kept_rows-length f h 64 c.args.values.now c.args.valid.now c.requires.same in
    let start = length c.args.values.now - length c.args.values.now / 2 in
    let at = kept_rows-at f h 64 c.args.values.now c.args.valid.now c.loop-i.i c.index-values-i.result _ c.requires.same (omega arith) c.index-values-i.is refl in
    let at-second = kept_rows-at f h 64 c.args.values.now c.args.valid.now (start + c.loop-i.i) c.index-values-start.result _ c.requires.same (omega arith) c.index-values-start.is refl in
    record {
      first = rw (take_more rows c.loop-i.i 0 (omega (arith, len)), ← at) (c.count_row.ensures (take c.loop-i.i rows) c.loop-i.invariant.first);
      second = rw (take_more (drop start rows) c.loop-i.i 0 (omega (arith, len, length-drop start rows)), get_or-drop start rows c.loop-i.i 0, ← at-second) (c.count_row-in-loop-i.ensures (take c.loop-i.i (drop start rows)) c.loop-i.invariant.second);
    }

pub loop-i-2-preserved : goal.loop-i-2-preserved
loop-i-2-preserved g c =
    let f = bits_in g.T.Integer.kind in
    let h = g.T.Integer.whole in
    let rows = kept_rows 64 (map f (map h c.args.values.now)) c.args.valid.now in
    let len = kept_rows-length f h 64 c.args.values.now c.args.valid.now c.requires.same in
    let at = kept_rows-at f h 64 c.args.values.now c.args.valid.now c.loop-i-2.i c.index-values-i-in-loop-i-2.result _ c.requires.same (omega arith) c.index-values-i-in-loop-i-2.is refl in
    rw (take_more rows c.loop-i-2.i 0 (omega (arith, len)), ← at) (c.count_row-in-loop-i-2.ensures (take c.loop-i-2.i rows) c.loop-i-2.invariant)

pub returns-clause-first : goal.returns-clause-first
returns-clause-first g c =
    let rows = kept_rows 64 (map (bits_in g.T.Integer.kind) (map g.T.Integer.whole c.args.values.now)) c.args.valid.now in
    let end : c.loop-i-2.i ≡ length c.args.values.now - length c.args.values.now / 2 = omega arith in
    subst (λ n. AreByZeros (bits_of g.T.Integer.kind) (take n rows) c.loop-i-2.first) end c.loop-i-2.invariant

pub returns-clause-second : goal.returns-clause-second
returns-clause-second g c =
    let rows = kept_rows 64 (map (bits_in g.T.Integer.kind) (map g.T.Integer.whole c.args.values.now)) c.args.valid.now in
    let len = kept_rows-length (bits_in g.T.Integer.kind) g.T.Integer.whole 64 c.args.values.now c.args.valid.now c.requires.same in
    let start = length c.args.values.now - length c.args.values.now / 2 in
    let last = take_all c.loop-i.i (drop start rows) (omega (arith, len, length-drop start rows)) in
    subst (λ l. AreByZeros (bits_of g.T.Integer.kind) l c.loop-i.second) last c.loop-i.invariant.second

pub returns-clause-most : goal.returns-clause-most
returns-clause-most g c =
    let rows = kept_rows 64 (map (bits_in g.T.Integer.kind) (map g.T.Integer.whole c.args.values.now)) c.args.valid.now in
    let len = kept_rows-length (bits_in g.T.Integer.kind) g.T.Integer.whole 64 c.args.values.now c.args.valid.now c.requires.same in
    let start = length c.args.values.now - length c.args.values.now / 2 in
    omega (arith, len, (returns-clause-first g c).most, (returns-clause-second g c).most, length-take start rows, length-drop start rows)
