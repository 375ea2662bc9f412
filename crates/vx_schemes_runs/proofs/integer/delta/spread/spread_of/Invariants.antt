use Rattle.std.proofs.Common.{◌≡◌, pos, map}
use Rattle.std.specs.Prelude.{fold, ◌≤ℤ◌}
use Rattle.std.specs.Int.{int_min, int_max}
use Rattle.std.specs.List.{range_with_len}
use Rattle.vx_blocks.specs.Deltas.{filled, delta}
use Rattle.vx_blocks.specs.Optional.{optional_rows}
use Rattle.vx_blocks.proofs.DeltaRows.{before}
use Rattle.vx_schemes_runs.proofs.integer.delta.spread.spread_of.Given as goal

abbrev pub invariant-loop-row : goal.invariant-loop-row
invariant-loop-row g l =
    let whole = g.T.Integer.whole in
    let rows = filled (optional_rows (map whole l.items) l.bits) in
    let seen = map (delta g.T.Integer.kind rows) (range_with_len 0 l.row) in
    record {
      last : whole l.last ≡ before (pos 0) rows l.row;
      ordered : whole l.least ≤ℤ whole l.greatest;
      least : whole l.least ≡ fold int_min (pos 0) seen;
      greatest : whole l.greatest ≡ fold int_max (pos 0) seen;
    }
