use Rattle.std.proofs.Common.{◌≡◌, ◌∙◌, ◌+◌, ◌-◌, ◌%◌, ◌<◌, pos, length, map, get_or, ap, arith}
use Rattle.std.proofs.lemmas.List.{length-set}
use Rattle.vx_blocks.specs.Deltas.{filled, delta}
use Rattle.vx_blocks.specs.Optional.{optional_rows}
use Rattle.vx_blocks.proofs.DeltaParts.{row-valid, row-from, delta-at}
use Rattle.vx_blocks.proofs.Written.{written-more}
use Rattle.vx_blocks.proofs.deltas.delta_part.Goals as goal

pub loop-k-init : goal.loop-k-init
loop-k-init g c =
    let whole = g.T.Integer.whole in
    let kind = g.T.Integer.kind in
    let xs = c.args.values.now in
    let valid = c.args.valid.now in
    let rows = filled (optional_rows (map whole xs) valid) in
    let start = c.args.start in
    let inside : start < length xs = omega (arith, c.requires.some, c.requires.room) in
    let item = row-from whole xs valid c.requires.same start _ inside c.index-values-start.is _ _ c.requires.first c.requires.other c.item_or-first.ensures in
    let made = delta-at whole xs valid c.requires.same start _ inside c.index-values-start.is _ _ c.requires.first c.requires.other kind _ item c.difference.ensures in
    let at : start ≡ start + 0 = omega arith in
    written-more whole (pos 0) (λ j. delta kind rows (start + j)) c.args.deltas.now 0 c.difference.result 1 c.requires.some (made ∙ ap (delta kind rows) at) (λ k h. absurd (omega arith)) (omega arith)

pub loop-k-preserved : goal.loop-k-preserved
loop-k-preserved g c =
    let whole = g.T.Integer.whole in
    let kind = g.T.Integer.kind in
    let xs = c.args.values.now in
    let valid = c.args.valid.now in
    let rows = filled (optional_rows (map whole xs) valid) in
    let k = c.loop-k.k in
    let row = c.args.start + k in
    let set = length-set c.args.deltas.now 0 c.difference.result in
    let size : length c.loop-k.deltas ≡ length c.args.deltas.now = omega (arith, c.loop-k.auto.deltas, set) in
    let below : k < length c.loop-k.deltas = omega (arith, c.loop-k-test.true, c.loop-k.auto.deltas, set) in
    let inside : row < length xs = omega (arith, c.requires.room, below, size) in
    let all = c.if-are_valid.ensures in
    let item = row-valid whole xs valid c.requires.same row _ inside c.index-values-start-in-loop-k.is (all row (omega arith) (omega (arith, below, size))) in
    let last = row-valid whole xs valid c.requires.same (row - 1) _ (omega arith) c.index-values-start-in-loop-k-2.is (all (row - 1) (omega arith) (omega (arith, below, size))) in
    let made = delta-at whole xs valid c.requires.same row _ inside c.index-values-start-in-loop-k.is _ _ (λ e. absurd (omega (arith, e, c.requires.part, below, size))) (λ _. last) kind _ item c.difference-in-loop-k.ensures in
    written-more whole (pos 0) (λ j. delta kind rows (c.args.start + j)) c.loop-k.deltas k c.difference-in-loop-k.result (k + 1) below made c.loop-k.invariant (omega arith)

pub returns-then-are_valid-clause-last : goal.returns-then-are_valid-clause-last
returns-then-are_valid-clause-last g c =
    let whole = g.T.Integer.whole in
    let valid = c.args.valid.now in
    let rows = filled (optional_rows (map whole c.args.values.now) valid) in
    let last = c.args.start + length c.loop-k.deltas - 1 in
    let set = length-set c.args.deltas.now 0 c.difference.result in
    let size : length c.loop-k.deltas ≡ length c.args.deltas.now = omega (arith, c.loop-k.auto.deltas, set) in
    let end : last ≡ c.args.start + length c.args.deltas.now - 1 = omega (arith, size) in
    row-valid whole c.args.values.now valid c.requires.same last _ (omega (arith, size, c.requires.some, c.requires.room)) c.index-values-start-then-are_valid.is
    (c.if-are_valid.ensures last (omega (arith, size, c.requires.some)) (omega (arith, size, c.requires.some, set))) ∙ ap (λ i. get_or rows i (pos 0)) end

pub loop-k-2-init : goal.loop-k-2-init
loop-k-2-init g c =
    let whole = g.T.Integer.whole in
    let kind = g.T.Integer.kind in
    let xs = c.args.values.now in
    let valid = c.args.valid.now in
    let rows = filled (optional_rows (map whole xs) valid) in
    let start = c.args.start in
    let inside : start < length xs = omega (arith, c.requires.some, c.requires.room) in
    let item = row-from whole xs valid c.requires.same start _ inside c.index-values-start.is _ _ c.requires.first c.requires.other c.item_or-first.ensures in
    let made = delta-at whole xs valid c.requires.same start _ inside c.index-values-start.is _ _ c.requires.first c.requires.other kind _ item c.difference.ensures in
    let at : start ≡ start + 0 = omega arith in
    let row : start ≡ start + 1 - 1 = omega arith in
    record {
      last = item ∙ ap (λ i. get_or rows i (pos 0)) row;
      deltas = written-more whole (pos 0) (λ j. delta kind rows (start + j)) c.args.deltas.now 0 c.difference.result 1 c.requires.some (made ∙ ap (delta kind rows) at) (λ k h. absurd (omega arith)) (omega arith);
    }

pub loop-k-2-preserved : goal.loop-k-2-preserved
loop-k-2-preserved g c =
    let whole = g.T.Integer.whole in
    let kind = g.T.Integer.kind in
    let xs = c.args.values.now in
    let valid = c.args.valid.now in
    let rows = filled (optional_rows (map whole xs) valid) in
    let k = c.loop-k-2.k in
    let row = c.args.start + k in
    let set = length-set c.args.deltas.now 0 c.difference.result in
    let size : length c.loop-k-2.deltas ≡ length c.args.deltas.now = omega (arith, c.loop-k-2.auto.deltas, set) in
    let below : k < length c.loop-k-2.deltas = omega (arith, c.loop-k-2-test.true, c.loop-k-2.auto.deltas, set) in
    let inside : row < length xs = omega (arith, c.requires.room, below, size) in
    let first = λ (e : row % 1024 ≡ 0). absurd (omega (arith, e, c.requires.part, below, size)) in
    let item = row-from whole xs valid c.requires.same row _ inside c.index-values-start-in-loop-k-2-2.is _ _ first (λ _. c.loop-k-2.invariant.last) c.item_or-item.ensures in
    let made = delta-at whole xs valid c.requires.same row _ inside c.index-values-start-in-loop-k-2-2.is _ _ first (λ _. c.loop-k-2.invariant.last) kind _ item c.difference-in-loop-k-2.ensures in
    let next : row ≡ c.args.start + (k + 1) - 1 = omega arith in
    record {
      last = item ∙ ap (λ i. get_or rows i (pos 0)) next;
      deltas = written-more whole (pos 0) (λ j. delta kind rows (c.args.start + j)) c.loop-k-2.deltas k c.difference-in-loop-k-2.result (k + 1) below made c.loop-k-2.invariant.deltas (omega arith);
    }
