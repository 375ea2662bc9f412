use Rattle.std.proofs.Common.{◌≡◌, ◌<◌, ◌≤◌, ◌∙◌, pos, false, length, map, get_or, ap, sym, arith}
use Rattle.std.specs.Prelude.{fold}
use Rattle.std.specs.Int.{int_min, int_max}
use Rattle.std.specs.List.{range_with_len}
use Rattle.vx_blocks.specs.Deltas.{filled, delta, deltas}
use Rattle.vx_blocks.specs.Optional.{optional_rows}
use Rattle.vx_blocks.proofs.OptionalRows.{rows-length, rows-at}
use Rattle.vx_blocks.proofs.DeltaRows.{length-filled_after, filled-item, before-next, delta-next}
use Rattle.vx_schemes_runs.proofs.Delta.Spread.{folded-more, ordered-next, least-first, greatest-first, spread-seen, spread-so_far, within-none, within-some}
use Rattle.vx_schemes_runs.proofs.integer.delta.spread.spread_of.Goals as goal
use Rattle.vx_schemes_runs.proofs.integer.delta.spread.spread_of.Goals.{then-row-ne0, else-row-ne0+else-apart-most}

pub loop-row-preserved : goal.loop-row-preserved
loop-row-preserved g c =
    let whole = g.T.Integer.whole in
    let kind = g.T.Integer.kind in
    let items = c.args.items.now in
    let bits = c.args.bits.now in
    let rows = optional_rows (map whole items) bits in
    let row = c.loop-row.row in
    let x = c.index-items-row.result in
    let within : row < length rows = omega (arith, rows-length whole items bits c.requires) in
    let is = rows-at whole items bits c.requires row x (omega arith) c.index-items-row.is in
    let before = c.loop-row.invariant in
    let item = filled-item rows row (get_or bits row false) (whole x) (whole c.loop-row.last) (whole c.item_or-item.result) within is before.last c.item_or-item.ensures in
    let last = item ∙ sym (before-next (pos 0) (filled rows) row) in
    elim c.if-row-ne0.branch [
      | then-row-ne0 w ↦
          let step = delta-next kind (filled rows) row (whole c.item_or-item.result) (whole c.loop-row.last) (whole w.difference-step.result) (omega (arith, length-filled_after (pos 0) rows, within)) w.if-row-ne0.true item before.last w.difference-step.ensures in
          let least = ap whole w.least-is ∙ w.lesser-least.ensures in
          let greatest = ap whole w.greatest-is ∙ w.greater-greatest.ensures in
          record {
            last = last;
            ordered = ordered-next (whole c.loop-row.least) (whole c.loop-row.greatest) (whole w.difference-step.result) _ _ before.ordered least greatest;
            least = folded-more int_min (delta kind (filled rows)) row (whole c.loop-row.least) _ (whole w.difference-step.result) step before.least least;
            greatest = folded-more int_max (delta kind (filled rows)) row (whole c.loop-row.greatest) _ (whole w.difference-step.result) step before.greatest greatest;
          }
      | else-row-ne0+else-apart-most w ↦
          let least = ap whole w.least-is in
          let greatest = ap whole w.greatest-is in
          record {
            last = last;
            ordered = rw (least, greatest) before.ordered;
            least = least ∙ least-first kind (filled rows) row (whole c.loop-row.least) w.if-row-ne0.false before.least;
            greatest = greatest ∙ greatest-first kind (filled rows) row (whole c.loop-row.greatest) w.if-row-ne0.false before.greatest;
          }
    ]

pub returns-then-apart-most : goal.returns-then-apart-most
returns-then-apart-most g c =
    let whole = g.T.Integer.whole in
    let kind = g.T.Integer.kind in
    let items = c.args.items.now in
    let bits = c.args.bits.now in
    let rows = optional_rows (map whole items) bits in
    let within : c.loop-row.row ≤ length (filled rows) = omega (arith, length-filled_after (pos 0) rows, rows-length whole items bits c.requires) in
    within-none c.args.most c.apart.result (deltas kind (filled rows)) c.if-apart-most.true
    (spread-so_far kind (filled rows) c.loop-row.row c.apart.result (whole c.loop-row.least) (whole c.loop-row.greatest) within c.loop-row.invariant.least c.loop-row.invariant.greatest c.apart.ensures)

pub returns-then-span-most : goal.returns-then-span-most
returns-then-span-most g c =
    let whole = g.T.Integer.whole in
    let kind = g.T.Integer.kind in
    let items = c.args.items.now in
    let bits = c.args.bits.now in
    let rows = optional_rows (map whole items) bits in
    let within : c.loop-row.row ≤ length (filled rows) = omega (arith, length-filled_after (pos 0) rows, rows-length whole items bits c.requires) in
    within-none c.args.most c.apart-span.result (deltas kind (filled rows)) c.if-span-most.true
    (spread-so_far kind (filled rows) c.loop-row.row c.apart-span.result (whole c.loop-row.least) (whole c.loop-row.greatest) within c.loop-row.invariant.least c.loop-row.invariant.greatest c.apart-span.ensures)

pub returns-else-span-most : goal.returns-else-span-most
returns-else-span-most g c =
    let whole = g.T.Integer.whole in
    let kind = g.T.Integer.kind in
    let items = c.args.items.now in
    let bits = c.args.bits.now in
    let rows = optional_rows (map whole items) bits in
    let all : c.loop-row.row ≡ length (filled rows) = omega (arith, length-filled_after (pos 0) rows, rows-length whole items bits c.requires) in
    within-some c.args.most c.apart-span.result (deltas kind (filled rows)) c.if-span-most.false
    (spread-seen kind (filled rows) c.apart-span.result (whole c.loop-row.least) (whole c.loop-row.greatest)
    (c.loop-row.invariant.least ∙ ap (λ n. fold int_min (pos 0) (map (delta kind (filled rows)) (range_with_len 0 n))) all)
    (c.loop-row.invariant.greatest ∙ ap (λ n. fold int_max (pos 0) (map (delta kind (filled rows)) (range_with_len 0 n))) all) c.apart-span.ensures)
