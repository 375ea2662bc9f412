use Rattle.std.proofs.Common.{ℕ, ◌≡◌, ◌∙◌, ◌+◌, ◌-◌, ◌*◌, ◌<◌, ◌≤◌, ◌^◌, length, map, min, replicate, sum, take, drop, true, sym, ap, subst, arith, rules}
use Rattle.std.specs.Prelude.{IfSome, unwrap_or}
use Rattle.std.proofs.lemmas.List.{length-map, length-take-le, length-drop}
use Rattle.std.proofs.Math.Seq.{take-add}
use Rattle.vx_base.specs.Integers.{bits_of}
use Rattle.vx_blocks.specs.Histogram.{IsHistogram}
use Rattle.vx_values.proofs.DifferenceBlocks.{histogram-none, written-all}
use Rattle.vx_values.proofs.DifferenceRows as rows
use Rattle.vx_values.proofs.ints.difference_blocks.widths_by_blocks.Goals as goal

count-of : (start n : ℕ) → start + n - start ≡ n
count-of start n = omega arith

pub loop-block-init : goal.loop-block-init
loop-block-init g c =
    let whole = g.T.Integer.whole in
    let of = rows.rows whole g.T.Integer.kind (whole c.args.reference) 64 c.args.items.now (unwrap_or c.args.valid.now (replicate (length (map whole c.args.items.now)) true)) in
    let none : min (1024 * 0) (length c.args.items.now) ≡ 0 = omega arith in
    let width : c.bit_width-width.result ≡ bits_of g.D.Integer.kind = c.bit_width-width.ensures.width ∙ ap bits_of c.ptype.ensures in
    let counts : c.in_ok-counts.counts.items ≡ replicate (bits_of g.D.Integer.kind + 1) 0 = c.in_ok-counts.ensures.items_if_clones_equal (λ n h. h) ∙ ap (λ k. replicate (k + 1) 0) width in
    record {
      counts = rw (counts, none) (histogram-none (bits_of g.D.Integer.kind));
      room = search rules;
    }

pub block_widths-requires-clause-room : goal.block_widths-requires-clause-room
block_widths-requires-clause-room g c =
    let items = c.args.items.now in
    omega (arith, rows.part-long items (1024 * c.loop-block.block) c.min-count.result (omega (arith, c.min-count.ensures, c.loop-block-test.true, c.div_ceil-blocks.ensures)), c.min-count.ensures, ap length c.as_mut_slice.ensures.value, c.loop-block.invariant.room)

pub block_widths-requires-clause-same : goal.block_widths-requires-clause-same
block_widths-requires-clause-same g c =
    let items = c.args.items.now in
    let start = 1024 * c.loop-block.block in
    let n = c.min-count.result in
    let room : start + n ≤ length items = omega (arith, c.min-count.ensures, c.loop-block-test.true, c.div_ceil-blocks.ensures) in
    subst (λ k. IfSome c.in_ok-part.part (λ bits. length bits ≡ k)) (count-of start n ∙ sym (rows.part-long items start n room)) c.in_ok-part.ensures.length

pub add_counts-requires-clause-same : goal.add_counts-requires-clause-same
add_counts-requires-clause-same g c =
    ap length c.as_slice.ensures.value ∙ c.in_ok-more.ensures.size ∙ sym c.loop-block.invariant.counts.size ∙ sym (ap length c.as_mut_slice-in-loop-block.ensures.value)

pub add_counts-requires-clause-room : goal.add_counts-requires-clause-room
add_counts-requires-clause-room g c =
    let items = c.args.items.now in
    let whole = g.T.Integer.whole in
    let block = c.loop-block.block in
    let n = c.min-count.result in
    let same = length-map items whole in
    let all = unwrap_or c.args.valid.now (replicate (length (map whole items)) true) in
    let long : length all ≡ length items = ap (λ k. length (unwrap_or c.args.valid.now (replicate k true))) same ∙ rows.bits-long c.args.valid.now (length items) c.requires.same in
    let of = rows.rows whole g.T.Integer.kind (whole c.args.reference) 64 items all in
    let some : 1024 * block < length items = omega (arith, c.loop-block-test.true, c.div_ceil-blocks.ensures) in
    let here : min (1024 * block) (length items) ≡ 1024 * block = omega arith in
    let room : 1024 * block + n ≤ length items = omega (arith, c.min-count.ensures, some) in
    let part = ap (λ k. unwrap_or c.in_ok-part.part (replicate k true)) (rows.part-long items (1024 * block) n room ∙ sym (count-of (1024 * block) n)) ∙ c.in_ok-part.ensures.rows in
    let bits = part ∙ ap (λ k. take (1024 * block + n - 1024 * block) (drop (1024 * block) (unwrap_or c.args.valid.now (replicate k true)))) (sym same) in
    let made = subst (λ r. IsHistogram (bits_of g.D.Integer.kind) r c.in_ok-more.more.items) (rows.rows-part whole g.T.Integer.kind (whole c.args.reference) 64 items all (1024 * block) n _ bits) c.in_ok-more.ensures in
    let before = subst (λ e. IsHistogram (bits_of g.D.Integer.kind) (take e of) c.loop-block.counts.items) here c.loop-block.invariant.counts in
    let count = rows.rows-length whole g.T.Integer.kind (whole c.args.reference) 64 items all long in
    let front = before.total ∙ length-take-le (1024 * block) of (omega (arith, count)) in
    let back = made.total ∙ length-take-le n (drop (1024 * block) of) (omega (arith, count, length-drop (1024 * block) of, c.min-count.ensures)) in
    let most : length items < 2 ^ 64 = search rules in
    omega (arith, ap sum c.as_slice.ensures.value, ap sum c.as_mut_slice-in-loop-block.ensures.value, front, back, most, c.min-count.ensures)

pub loop-block-preserved : goal.loop-block-preserved
loop-block-preserved g c =
    let items = c.args.items.now in
    let whole = g.T.Integer.whole in
    let block = c.loop-block.block in
    let n = c.min-count.result in
    let same = length-map items whole in
    let all = unwrap_or c.args.valid.now (replicate (length (map whole items)) true) in
    let of = rows.rows whole g.T.Integer.kind (whole c.args.reference) 64 items all in
    let some : 1024 * block < length items = omega (arith, c.loop-block-test.true, c.div_ceil-blocks.ensures) in
    let here : min (1024 * block) (length items) ≡ 1024 * block = omega arith in
    let next : 1024 * block + n ≡ min (1024 * (block + 1)) (length items) = omega (arith, c.min-count.ensures) in
    let room : 1024 * block + n ≤ length items = omega (arith, c.min-count.ensures, some) in
    let part = ap (λ k. unwrap_or c.in_ok-part.part (replicate k true)) (rows.part-long items (1024 * block) n room ∙ sym (count-of (1024 * block) n)) ∙ c.in_ok-part.ensures.rows in
    let bits = part ∙ ap (λ k. take (1024 * block + n - 1024 * block) (drop (1024 * block) (unwrap_or c.args.valid.now (replicate k true)))) (sym same) in
    let made = subst (λ r. IsHistogram (bits_of g.D.Integer.kind) r c.in_ok-more.more.items) (rows.rows-part whole g.T.Integer.kind (whole c.args.reference) 64 items all (1024 * block) n _ bits) c.in_ok-more.ensures in
    let before = subst (λ e. IsHistogram (bits_of g.D.Integer.kind) (take e of) c.loop-block.counts.items) here c.loop-block.invariant.counts in
    let counts = subst (λ l. IsHistogram (bits_of g.D.Integer.kind) (take (1024 * block) of) l) (sym c.as_mut_slice-in-loop-block.ensures.value) before in
    let more = subst (λ l. IsHistogram (bits_of g.D.Integer.kind) (take n (drop (1024 * block) of)) l) (sym c.as_slice.ensures.value) made in
    let both = c.add_counts.ensures (bits_of g.D.Integer.kind) (take (1024 * block) of) (take n (drop (1024 * block) of)) counts more in
    let after = subst (λ r. IsHistogram (bits_of g.D.Integer.kind) r c.add_counts.new.counts) (sym (take-add (1024 * block) n of)) both in
    let size : length c.block_widths.new.buffer ≡ length c.loop-block.buffer.items = c.block_widths.auto.buffer ∙ ap length c.as_mut_slice.ensures.value in
    let long : length c.add_counts.new.counts ≡ length c.loop-block.counts.items = c.add_counts.auto.counts ∙ ap length c.as_mut_slice-in-loop-block.ensures.value in
    record {
      counts = rw (written-all c.loop-block.counts.items c.add_counts.new.counts c.loop-block.counts.len c.loop-block.counts.ok.0 long) (subst (λ e. IsHistogram (bits_of g.D.Integer.kind) (take e of) c.add_counts.new.counts) next after);
      room = ap length (written-all c.loop-block.buffer.items c.block_widths.new.buffer c.loop-block.buffer.len c.loop-block.buffer.ok.0 size) ∙ size ∙ c.loop-block.invariant.room;
    }

pub returns : goal.returns
returns g c =
    let items = c.args.items.now in
    let whole = g.T.Integer.whole in
    let all = unwrap_or c.args.valid.now (replicate (length (map whole items)) true) in
    let long : length all ≡ length items = ap (λ k. length (unwrap_or c.args.valid.now (replicate k true))) (length-map items whole) ∙ rows.bits-long c.args.valid.now (length items) c.requires.same in
    let end : length items ≤ min (1024 * c.loop-block.block) (length items) = omega (arith, c.loop-block-test.false, c.loop-block.auto.block-end, c.div_ceil-blocks.ensures) in
    subst (λ r. IsHistogram (bits_of g.D.Integer.kind) r c.loop-block.counts.items) (rows.rows-all whole g.T.Integer.kind (whole c.args.reference) 64 items all long _ end) c.loop-block.invariant.counts
