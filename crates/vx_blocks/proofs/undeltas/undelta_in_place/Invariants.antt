use Rattle.std.proofs.Common.{◌≤◌, ◌*◌, map}
use Rattle.vx_blocks.proofs.DeltaSums.{GoesOn}
use Rattle.vx_blocks.proofs.DeltasInPlace.{SummedTo}
use Rattle.vx_blocks.proofs.undeltas.undelta_in_place.Given as goal

abbrev pub invariant-loop-row : goal.invariant-loop-row
invariant-loop-row g l =
    let whole = g.T.Integer.whole in
    let bases = map whole l.bases in
    let deltas = map whole l.fn.rows in
    record {
      first : 1024 * l.block ≤ l.row;
      last : GoesOn g.T.Integer.kind bases deltas l.block l.row (whole l.last);
      rows : SummedTo g.T.Integer.kind bases deltas (map whole l.rows) l.row;
    }

abbrev pub invariant-loop-block : goal.invariant-loop-block
invariant-loop-block g l = SummedTo g.T.Integer.kind (map g.T.Integer.whole l.bases) (map g.T.Integer.whole l.fn.rows) (map g.T.Integer.whole l.rows) (1024 * l.block)
