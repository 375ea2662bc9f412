use Rattle.std.proofs.Common.{◌≡◌, ◌<◌, ◌+◌, ◌-◌, ℕ, pos, map, get_or}
use Rattle.vx_blocks.specs.Deltas.{filled, delta}
use Rattle.vx_blocks.specs.Optional.{optional_rows}
use Rattle.vx_blocks.proofs.deltas.delta_part.Given as goal

abbrev pub invariant-loop-k : goal.invariant-loop-k
invariant-loop-k g l =
    let whole = g.T.Integer.whole in
    let rows = filled (optional_rows (map whole l.values) l.valid) in
    (j : ℕ) → j < l.k → get_or (map whole l.deltas) j (pos 0) ≡ delta g.T.Integer.kind rows (l.start + j)

abbrev pub invariant-loop-k-2 : goal.invariant-loop-k-2
invariant-loop-k-2 g l =
    let whole = g.T.Integer.whole in
    let rows = filled (optional_rows (map whole l.values) l.valid) in
    record {
      last : whole l.last ≡ get_or rows (l.start + l.k - 1) (pos 0);
      deltas : (j : ℕ) → j < l.k → get_or (map whole l.deltas) j (pos 0) ≡ delta g.T.Integer.kind rows (l.start + j);
    }
