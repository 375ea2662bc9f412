use Rattle.vx_stats.proofs.SlotLemmas.{TakenBut}
use Rattle.vx_stats.proofs.TallyLemmas.{left}
use Rattle.vx_stats.proofs.integer.slots.taken_by_valid.Given as goal

abbrev pub invariant-loop-row : goal.invariant-loop-row
invariant-loop-row g l =
    let whole = g.T.Integer.whole in
    TakenBut g.T.Integer.kind (left whole l.items l.bits 0) (left whole l.items l.bits l.row) l.slots
