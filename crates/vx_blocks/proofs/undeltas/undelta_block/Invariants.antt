use Rattle.std.proofs.Common.{◌≡◌, ◌≤◌, ◌+◌, ◌-◌, ◌*◌, map}
use Rattle.std.specs.List.{range_with_len}
use Rattle.vx_base.specs.Undelta.{undelta_row}
use Rattle.vx_blocks.proofs.DeltaSums.{GoesOn}
use Rattle.vx_blocks.proofs.undeltas.undelta_block.Given as goal

abbrev pub invariant-loop-at : goal.invariant-loop-at
invariant-loop-at g l =
    let whole = g.T.Integer.whole in
    let kind = g.T.Integer.kind in
    let bases = map whole l.bases in
    let deltas = map whole l.deltas in
    record {
      start : 1024 * l.block ≤ l.at;
      end : l.at ≤ 1024 * (l.block + 1);
      last : GoesOn kind bases deltas l.block l.at (whole l.last);
      rows : map whole l.rows.items ≡ map (undelta_row kind bases deltas) (range_with_len 0 l.at);
    }

abbrev pub decreases-loop-at : goal.decreases-loop-at
decreases-loop-at g l = 1024 * (l.block + 1) - l.at
