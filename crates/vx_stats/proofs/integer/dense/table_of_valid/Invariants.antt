use Rattle.vx_stats.proofs.TableLemmas.{CountsBut}
use Rattle.vx_stats.proofs.TallyLemmas.{left}
use Rattle.vx_stats.proofs.integer.dense.table_of_valid.Given as goal

abbrev pub invariant-loop-row : goal.invariant-loop-row
invariant-loop-row g l =
    let whole = g.T.Integer.whole in
    CountsBut (whole l.range.least) (whole l.range.greatest) l.len (left whole l.items l.bits 0) (left whole l.items l.bits l.row) l.table.items
