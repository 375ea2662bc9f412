use Rattle.std.proofs.Common.{rules, ◌∙◌, ◌+◌, false, get_or, arith}
use Rattle.vx_stats.proofs.TallyLemmas.{left, left-next, step, min-above, max-below}
use Rattle.vx_stats.proofs.integer.tally.tally_valid.Goals as goal

pub loop-row-init : goal.loop-row-init
loop-row-init g c =
    record {
      few = omega arith;
      above = min-above _ _ c.requires.last.least;
      below = max-below _ _ c.requires.last.greatest;
      changes = search rules;
      least = search rules;
      greatest = search rules;
      final = search rules;
    }

pub loop-row-preserved : goal.loop-row-preserved
loop-row-preserved g c =
    let whole = g.T.Integer.whole in
    let items = c.args.items.now in
    let bits = c.args.bits.now in
    let row = c.loop-row.row in
    let here = left-next whole items bits row c.index-items-row.result (omega arith) c.requires.bits c.index-items-row.is in
    let s =
    step (get_or bits row false) (whole c.loop-row.last) (whole c.loop-row.min) (whole c.loop-row.max) (whole c.index-items-row.result) (whole c.item_or-item.result)
    c.change-changes.result (whole c.lesser-min.result) (whole c.greater-max.result) (left whole items bits row) (left whole items bits (row + 1))
    c.loop-row.invariant.above c.loop-row.invariant.below c.item_or-item.ensures c.change-changes.ensures.value c.lesser-min.ensures c.greater-max.ensures here
    in
    record {
      few = omega arith;
      above = s.above;
      below = s.below;
      changes = omega (arith, s.changes);
      least = s.least ∙ c.loop-row.invariant.least;
      greatest = s.greatest ∙ c.loop-row.invariant.greatest;
      final = s.final ∙ c.loop-row.invariant.final;
    }
