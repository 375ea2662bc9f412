use Rattle.std.proofs.Common.{◌≡◌, ◌≤◌, ◌∙◌, ◌+◌, ◌-◌, ◌*◌, ◌++◌, pos, length, map, take, drop, sym, ap, arith}
use Rattle.std.specs.List.{range_with_len}
use Rattle.std.proofs.lemmas.List.{length-map, map-append, take-map, drop-map}
use Rattle.std.proofs.lemmas.List.FromFn.{length-map-range_with_len}
use Rattle.vx_base.specs.Undelta.{undelta_row}
use Rattle.vx_blocks.proofs.DeltaSums.{goes_on-base, goes_on-part, sums-in_part}
use Rattle.vx_blocks.proofs.Ranges.{map-range_part}
use Rattle.vx_blocks.proofs.Sequences.{whole-at}
use Rattle.vx_blocks.proofs.Written.{grown-written}
use Rattle.vx_blocks.proofs.undeltas.undelta_block.Goals as goal

pub loop-at-init : goal.loop-at-init
loop-at-init g c =
    let whole = g.T.Integer.whole in
    let base = whole-at whole c.args.bases.now c.args.block c.index-bases-block.result c.requires.block c.index-bases-block.is in
    record {
      start = omega arith;
      end = omega arith;
      last = goes_on-base g.T.Integer.kind (map whole c.args.bases.now) (map whole c.args.deltas.now) c.args.block (whole c.index-bases-block.result) base;
      rows = c.requires.rows;
    }

pub loop-at-preserved : goal.loop-at-preserved
loop-at-preserved g c =
    let whole = g.T.Integer.whole in
    let kind = g.T.Integer.kind in
    let bases = map whole c.args.bases.now in
    let deltas = map whole c.args.deltas.now in
    let row = undelta_row kind bases deltas in
    let at = c.loop-at.at in
    let count = c.min.result in
    let items = c.loop-at.rows.items in
    let made = c.undelta_part-last.new.rows in
    let size : length items ≡ at = sym (length-map items whole) ∙ ap length c.loop-at.invariant.rows ∙ length-map-range_with_len row 0 at in
    let long : length made ≡ count = omega (arith, c.undelta_part-last.auto.rows ∙ c.slice_mut.ensures.len, c.in_ok-resize.ensures.len) in
    let same : at + count - at ≡ count = omega arith in
    let part : map whole (take (at + count - at) (drop at c.args.deltas.now)) ≡ take count (drop at deltas) =
    ap (λ n. map whole (take n (drop at c.args.deltas.now))) same ∙ sym (ap (take count) (drop-map whole at c.args.deltas.now) ∙ take-map whole count (drop at c.args.deltas.now))
    in
    let within : at + count ≤ 1024 * (c.args.block + 1) = omega (arith, c.min.ensures) in
    let written = grown-written items c.resize.new.self.items made _ c.zero.result at count _ c.resize.new.self.len (sym size) c.in_ok-resize.ensures.items (omega (arith, size)) long (omega (arith, c.in_ok-resize.ensures.len)) in
    record {
      start = omega arith;
      end = within;
      last = goes_on-part kind bases deltas c.args.block at count (whole c.loop-at.last) _ c.loop-at.invariant.start part c.loop-at.invariant.last (whole c.undelta_part-last.result) c.undelta_part-last.ensures.last;
      rows = ap (map whole) written ∙ map-append whole items made ∙ ap (λ l. l ++ map whole made) c.loop-at.invariant.rows
          ∙ map-range_part row (pos 0) at count (map whole made) (length-map made whole ∙ long)
          (λ k h. c.undelta_part-last.ensures.rows k (omega (arith, long)) ∙ sums-in_part kind bases deltas c.args.block at count (whole c.loop-at.last) _ c.loop-at.invariant.start part c.loop-at.invariant.last k h within);
    }

pub returns : goal.returns
returns g c =
    let end : c.loop-at.at ≡ 1024 * (c.args.block + 1) = omega arith in
    c.loop-at.invariant.rows ∙ ap (λ n. map (undelta_row g.T.Integer.kind (map g.T.Integer.whole c.args.bases.now) (map g.T.Integer.whole c.args.deltas.now)) (range_with_len 0 n)) end
