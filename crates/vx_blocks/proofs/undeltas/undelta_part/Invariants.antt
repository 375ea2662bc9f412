use Rattle.std.proofs.Common.{◌≡◌, ◌<◌, ◌+◌, ℕ, pos, map, get_or}
use Rattle.vx_blocks.proofs.DeltaSums.{sums}
use Rattle.vx_blocks.proofs.undeltas.undelta_part.Given as goal

abbrev pub invariant-loop-k : goal.invariant-loop-k
invariant-loop-k g l =
    let whole = g.T.Integer.whole in
    let row = sums g.T.Integer.kind (whole l.fn.before) (map whole l.deltas) in
    record {
      last : whole l.last ≡ row l.k;
      rows : (j : ℕ) → j < l.k → get_or (map whole l.rows) j (pos 0) ≡ row (j + 1);
    }
