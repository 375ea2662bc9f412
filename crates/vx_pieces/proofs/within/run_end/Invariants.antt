use Rattle.std.proofs.Common.{◌≡◌, ◌<◌, ◌≤◌, ◌-◌, false}
use Rattle.std.specs.Prelude.{replicate, slice_index_or}
use Rattle.vx_base.specs.Masks.{rows_between}
use Rattle.vx_pieces.proofs.within.run_end.Given as goal

abbrev pub invariant-loop-row : goal.invariant-loop-row
invariant-loop-row l = (l.start < l.row) × (l.row ≤ l.end) × (rows_between l.mask l.start l.row ≡ replicate (l.row - l.start) (slice_index_or l.mask l.start false))
