use Rattle.std.proofs.Common.{◌≡◌, ◌≤◌, ◌++◌, map, vec_len}
use Rattle.vx_stats.proofs.TallyLemmas.{left}
use Rattle.vx_stats.proofs.integer.sorting.masked_items.Given as goal

abbrev pub invariant-loop-row : goal.invariant-loop-row
invariant-loop-row g l =
    let whole = g.T.Integer.whole in
    record {
      few : vec_len l.kept ≤ l.row;
      kept : map whole l.kept.items ++ left whole l.items l.bits l.row ≡ left whole l.items l.bits 0;
    }
