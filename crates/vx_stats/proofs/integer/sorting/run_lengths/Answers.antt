use Rattle.std.proofs.Common.{◌∙◌, ◌+◌, ◌++◌, map, drop, sym, ap, arith, vec_len}
use Rattle.vx_stats.specs.Runs.{whole_counts, runs_from}
use Rattle.vx_stats.proofs.DistinctLemmas.{run-next, runs-start}
use Rattle.vx_stats.proofs.integer.sorting.run_lengths.Goals as goal
use Rattle.vx_stats.proofs.integer.sorting.run_lengths.Goals.{then-is_same, else-is_same+in_ok-push}

pub loop-row-init : goal.loop-row-init
loop-row-init g c =
    let whole = g.T.Integer.whole in
    let x = c.index-items-0.result in
    record {
      few = omega (arith, c.new-counts.ensures.len);
      small = omega arith;
      done = ap (λ l. whole_counts whole l ++ runs_from (whole x) 1 (map whole (drop 1 c.args.items.now))) c.new-counts.ensures.items
          ∙ runs-start whole c.args.items.now x (sym c.if-is_empty.ensures) c.index-items-0.is;
    }

pub loop-row-preserved : goal.loop-row-preserved
loop-row-preserved g c =
    let whole = g.T.Integer.whole in
    let rest = map whole (drop (c.loop-row.row + 1) c.args.items.now) in
    let next =
    run-next whole c.args.items.now c.loop-row.row c.loop-row.value c.index-items-row.result c.loop-row.count c.loop-row.counts.items _ (omega arith) c.index-items-row.is c.loop-row.invariant.done
    in
    elim c.if-is_same.branch [
      | then-is_same w ↦
          record {
            few = omega (arith, ap vec_len w.counts-is);
            small = omega (arith, w.count-is);
            done = (λ i. whole_counts whole (w.counts-is i).items ++ runs_from (whole (w.value-is i)) (w.count-is i) rest) ∙ next.0 (sym w.if-is_same.ensures);
          }
      | else-is_same+in_ok-push w ↦
          record {
            few = omega (arith, w.in_ok-push.ensures.len, ap vec_len w.counts-is);
            small = omega (arith, w.count-is);
            done = (λ i. whole_counts whole (w.counts-is i).items ++ runs_from (whole (w.value-is i)) (w.count-is i) rest)
                ∙ ap (λ l. whole_counts whole l ++ runs_from (whole c.index-items-row.result) 1 rest) w.in_ok-push.ensures.items ∙ next.1 (sym w.if-is_same.ensures);
          }
    ]
