use Rattle.std.proofs.Common.{length}
use Rattle.vx_selections.proofs.Compacting.{IsFront}
use Rattle.vx_selections.proofs.filters.compacting.write_kept.Given as goal

abbrev pub invariant-loop-row : goal.invariant-loop-row
invariant-loop-row g l = IsFront l.bits l.items l.row l.place (length l.initial.out) l.out
