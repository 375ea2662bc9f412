use Rattle.std.proofs.Common.{◌∙◌, ◌+◌, ◌++◌, drop, sym, ap, arith}
use Rattle.vx_stats.specs.Runs.{whole_counts}
use Rattle.vx_stats.specs.Seen.{merged_from}
use Rattle.vx_stats.proofs.SeenLemmas.{merged-next, merged-room}
use Rattle.vx_stats.proofs.integer.counting.merged.Goals as goal
use Rattle.vx_stats.proofs.integer.counting.merged.Goals.{then-is_same, else-is_same+in_ok-push}

pub overflow_add-count : goal.overflow_add-count
overflow_add-count g c =
    let whole = g.T.Integer.whole in
    let items = c.args.counts.now in
    let rest = whole_counts whole (drop (c.loop-place.place + 1) items) in
    let next = merged-next whole items c.loop-place.place c.loop-place.value c.index-counts-place.result c.loop-place.count c.loop-place.merged.items _ c.loop-place-test.true c.index-counts-place.is c.loop-place.invariant in
    let room = merged-room whole items c.loop-place.value (c.loop-place.count + c.index-counts-place.result.1) (whole_counts whole c.loop-place.merged.items) rest (next.0 (sym c.is_same.ensures ∙ c.if-is_same.true)) in
    record { fits = omega (arith, room, c.requires (whole c.loop-place.value)) }

pub loop-place-preserved : goal.loop-place-preserved
loop-place-preserved g c =
    let whole = g.T.Integer.whole in
    let items = c.args.counts.now in
    let rest = whole_counts whole (drop (c.loop-place.place + 1) items) in
    let next = merged-next whole items c.loop-place.place c.loop-place.value c.index-counts-place.result c.loop-place.count c.loop-place.merged.items _ c.loop-place-test.true c.index-counts-place.is c.loop-place.invariant in
    elim c.if-is_same.branch [
      | then-is_same w ↦ (λ i. whole_counts whole (w.merged-is i).items ++ merged_from (whole (w.value-is i)) (w.count-is i) rest) ∙ next.0 (sym w.if-is_same.ensures)
      | else-is_same+in_ok-push w ↦
          (λ i. whole_counts whole (w.merged-is i).items ++ merged_from (whole (w.value-is i)) (w.count-is i) rest)
          ∙ ap (λ l. whole_counts whole l ++ merged_from (whole c.index-counts-place.result.0) c.index-counts-place.result.1 rest) w.in_ok-push.ensures.items ∙ next.1 (sym w.if-is_same.ensures)
    ]
