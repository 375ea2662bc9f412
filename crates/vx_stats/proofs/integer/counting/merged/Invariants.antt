use Rattle.std.proofs.Common.{◌≡◌, ◌++◌, drop}
use Rattle.vx_stats.specs.Runs.{whole_counts}
use Rattle.vx_stats.specs.Seen.{merged, merged_from}
use Rattle.vx_stats.proofs.integer.counting.merged.Given as goal

abbrev pub invariant-loop-place : goal.invariant-loop-place
invariant-loop-place g l =
    let whole = g.T.Integer.whole in
    whole_counts whole l.merged.items ++ merged_from (whole l.value) l.count (whole_counts whole (drop l.place l.counts)) ≡ merged (whole_counts whole l.counts)
