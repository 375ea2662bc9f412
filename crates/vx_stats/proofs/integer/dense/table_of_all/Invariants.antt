use Rattle.std.proofs.Common.{map, drop}
use Rattle.vx_stats.proofs.TableLemmas.{CountsBut}
use Rattle.vx_stats.proofs.integer.dense.table_of_all.Given as goal

abbrev pub invariant-loop-row : goal.invariant-loop-row
invariant-loop-row g l =
    let whole = g.T.Integer.whole in
    CountsBut (whole l.range.least) (whole l.range.greatest) l.len (map whole l.items) (map whole (drop l.row l.items)) l.table.items
