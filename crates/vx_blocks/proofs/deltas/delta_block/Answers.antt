use Rattle.std.proofs.Common.{◌≡◌, ◌∙◌, ◌+◌, ◌-◌, ◌++◌, pos, length, map, get_or, sym, ap, arith}
use Rattle.std.proofs.lemmas.List.{length-map, map-append}
use Rattle.std.proofs.lemmas.List.FromFn.{length-map-range_with_len}
use Rattle.vx_blocks.specs.Deltas.{filled, delta}
use Rattle.vx_blocks.specs.Optional.{optional_rows}
use Rattle.vx_blocks.proofs.DeltaParts.{row-after}
use Rattle.vx_blocks.proofs.DeltaRows.{before, before-next}
use Rattle.vx_blocks.proofs.Ranges.{map-range_part}
use Rattle.vx_blocks.proofs.Written.{grown-written}
use Rattle.vx_blocks.proofs.deltas.delta_block.Goals as goal

pub loop-at-init : goal.loop-at-init
loop-at-init g c =
    let base = row-after g.T.Integer.whole c.args.values.now c.args.valid.now c.requires.same c.args.start _ (omega arith) c.index-values-start.is _ _ c.requires.before c.item_or-base.ensures in
    record {
      start = omega arith;
      end = omega arith;
      first = λ _. base;
      other = λ h. absurd (omega arith);
      deltas = c.requires.deltas;
    }

pub loop-at-preserved : goal.loop-at-preserved
loop-at-preserved g c =
    let whole = g.T.Integer.whole in
    let kind = g.T.Integer.kind in
    let xs = c.args.values.now in
    let rows = filled (optional_rows (map whole xs) c.args.valid.now) in
    let at = c.loop-at.at in
    let count = c.min.result in
    let items = c.loop-at.deltas.items in
    let made = c.delta_part-last.new.deltas in
    let size : length items ≡ at = sym (length-map items whole) ∙ ap length c.loop-at.invariant.deltas ∙ length-map-range_with_len (delta kind rows) 0 at in
    let long : length made ≡ count = omega (arith, c.delta_part-last.auto.deltas ∙ c.slice_mut.ensures.len, c.in_ok-resize.ensures.len) in
    let last : at + length c.slice_mut.result.now - 1 ≡ at + count - 1 = omega (arith, long, c.delta_part-last.auto.deltas) in
    let written = grown-written items c.resize.new.self.items made _ c.zero.result at count _ c.resize.new.self.len (sym size) c.in_ok-resize.ensures.items (omega (arith, size)) long (omega (arith, c.in_ok-resize.ensures.len)) in
    record {
      start = omega arith;
      end = omega (arith, c.min.ensures);
      first = λ e. absurd (omega (arith, e, c.min.ensures, c.rows_at_once-most.ensures.some));
      other = λ h. c.delta_part-last.ensures.last ∙ ap (λ i. get_or rows i (pos 0)) last;
      deltas = ap (map whole) written ∙ map-append whole items made ∙ ap (λ l. l ++ map whole made) c.loop-at.invariant.deltas
          ∙ map-range_part (delta kind rows) (pos 0) at count (map whole made) (length-map made whole ∙ long) (λ k h. c.delta_part-last.ensures.deltas k (omega (arith, long)));
    }

pub returns-clause-base : goal.returns-clause-base
returns-clause-base g c = row-after g.T.Integer.whole c.args.values.now c.args.valid.now c.requires.same c.args.start _ (omega arith) c.index-values-start.is _ _ c.requires.before c.item_or-base.ensures

pub returns-clause-last : goal.returns-clause-last
returns-clause-last g c =
    let rows = filled (optional_rows (map g.T.Integer.whole c.args.values.now) c.args.valid.now) in
    let end : c.loop-at.at - 1 + 1 ≡ c.args.end = omega arith in
    c.loop-at.invariant.other (omega arith) ∙ sym (before-next (pos 0) rows (c.loop-at.at - 1)) ∙ ap (before (pos 0) rows) end
