use Rattle.std.proofs.Common.{arith, ℕ, length, ◌≡◌, ◌<◌, ◌+◌, ◌-◌, ◌/◌, map, ap, sym, ◌∙◌, take, drop, replicate, true, false, get_or}
use Rattle.std.proofs.lemmas.List.{take_more, take_all, take-append-drop, length-take, length-drop, get_or-drop, get_or-replicate, length-replicate}
use Rattle.vx_base.specs.Packed.{kept_row, kept_rows}
use Rattle.vx_base.specs.Integers.{bits_in, bits_of}
use Rattle.vx_blocks.proofs.Counts.{by_zeros-none}
use Rattle.vx_blocks.proofs.Rows.{kept_rows-at, kept_rows-length}
use Rattle.vx_blocks.proofs.widths.count_all_widths.Goals as goal

-- a row is valid where all are
set-at : (count i bits : ℕ) → i < count → kept_row 64 bits true ≡ kept_row 64 bits (get_or (replicate count true) i false)
set-at count i bits l = ap (kept_row 64 bits) (sym (get_or-replicate count i true false l))

pub loop-i-init : goal.loop-i-init
loop-i-init g c = record { first = by_zeros-none (bits_of g.T.Integer.kind); second = by_zeros-none (bits_of g.T.Integer.kind) }

pub loop-i-preserved : goal.loop-i-preserved
loop-i-preserved g c =
    let f = bits_in g.T.Integer.kind in
    let h = g.T.Integer.whole in
    let xs = c.args.values.now in
    let n = length xs in
    let same = length-replicate n true in
    let rows = kept_rows 64 (map f (map h xs)) (replicate n true) in
    let len = kept_rows-length f h 64 xs (replicate n true) same in
    let start = n - n / 2 in
    let i = c.loop-i.i in
    let x = c.index-values-i.result in
    let y = c.index-values-start.result in
    let at = kept_rows-at f h 64 xs (replicate n true) i x _ same (omega arith) c.index-values-i.is (set-at n i (f (h x)) (omega arith)) in
    let at-second = kept_rows-at f h 64 xs (replicate n true) (start + i) y _ same (omega arith) c.index-values-start.is (set-at n (start + i) (f (h y)) (omega arith)) in
    record {
      first = rw (take_more rows i 0 (omega (arith, len)), ← at) (c.count_row.ensures (take i rows) c.loop-i.invariant.first);
      second = rw (take_more (drop start rows) i 0 (omega (arith, len, length-drop start rows)), get_or-drop start rows i 0, ← at-second) (c.count_row-in-loop-i.ensures (take i (drop start rows)) c.loop-i.invariant.second);
    }

pub loop-i-2-preserved : goal.loop-i-2-preserved
loop-i-2-preserved g c =
    let f = bits_in g.T.Integer.kind in
    let h = g.T.Integer.whole in
    let xs = c.args.values.now in
    let n = length xs in
    let same = length-replicate n true in
    let rows = kept_rows 64 (map f (map h xs)) (replicate n true) in
    let len = kept_rows-length f h 64 xs (replicate n true) same in
    let i = c.loop-i-2.i in
    let x = c.index-values-i-in-loop-i-2.result in
    let at = kept_rows-at f h 64 xs (replicate n true) i x _ same (omega arith) c.index-values-i-in-loop-i-2.is (set-at n i (f (h x)) (omega arith)) in
    rw (take_more rows i 0 (omega (arith, len)), ← at) (c.count_row-in-loop-i-2.ensures (take i rows) c.loop-i-2.invariant)

pub returns-clause-widths : goal.returns-clause-widths
returns-clause-widths g c =
    let f = bits_in g.T.Integer.kind in
    let h = g.T.Integer.whole in
    let xs = c.args.values.now in
    let n = length xs in
    let rows = kept_rows 64 (map f (map h xs)) (replicate n true) in
    let len = kept_rows-length f h 64 xs (replicate n true) (length-replicate n true) in
    let start = n - n / 2 in
    let end : c.loop-i-2.i ≡ start = omega arith in
    let last = take_all c.loop-i.i (drop start rows) (omega (arith, len, length-drop start rows)) in
    let width : c.bit_width-width.result ≡ bits_of g.T.Integer.kind = c.bit_width-width.ensures.width ∙ ap bits_of c.ptype.ensures in
    let first = rw (end, ← width) at c.loop-i-2.invariant in
    let second = rw (last, ← width) at c.loop-i.invariant.second in
    let all : length (take start rows) + length (drop start rows) ≡ n = omega (arith, len, length-take start rows, length-drop start rows) in
    let whole = c.in_ok-counts.ensures (take start rows) (drop start rows) first second all in
    rw (width, take-append-drop start rows) at whole

pub returns-clause-total : goal.returns-clause-total
returns-clause-total g c =
    let n = length c.args.values.now in
    (returns-clause-widths g c).total ∙ kept_rows-length (bits_in g.T.Integer.kind) g.T.Integer.whole 64 c.args.values.now (replicate n true) (length-replicate n true)
