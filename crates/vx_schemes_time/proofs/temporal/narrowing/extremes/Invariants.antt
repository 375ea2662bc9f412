use Rattle.std.proofs.Common.{◌≡◌, pos, drop}
use Rattle.std.specs.Prelude.{fold}
use Rattle.std.specs.Int.{int_max, int_min}
use Rattle.vx_schemes_time.proofs.temporal.narrowing.extremes.Given as goal

-- what is left decides
abbrev pub invariant-loop-row : goal.invariant-loop-row
invariant-loop-row l = record {
  least : fold int_min l.least (drop l.row l.items) ≡ fold int_min (pos 0) l.items;
  greatest : fold int_max l.greatest (drop l.row l.items) ≡ fold int_max (pos 0) l.items;
}
