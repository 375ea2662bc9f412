use Rattle.std.proofs.Common.{map, drop}
use Rattle.vx_stats.proofs.SlotLemmas.{TakenBut}
use Rattle.vx_stats.proofs.integer.slots.taken_by_all.Given as goal

abbrev pub invariant-loop-row : goal.invariant-loop-row
invariant-loop-row g l =
    let whole = g.T.Integer.whole in
    TakenBut g.T.Integer.kind (map whole l.items) (map whole (drop l.row l.items)) l.slots
