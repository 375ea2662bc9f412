use Rattle.std.proofs.Common.{◌≡◌, ◌<◌, ◌≤◌, ◌-◌, pos, map, get_or}
use Rattle.std.specs.List.{range_with_len}
use Rattle.vx_blocks.specs.Deltas.{filled, delta}
use Rattle.vx_blocks.specs.Optional.{optional_rows}
use Rattle.vx_blocks.proofs.deltas.delta_block.Given as goal

abbrev pub invariant-loop-at : goal.invariant-loop-at
invariant-loop-at g l =
    let whole = g.T.Integer.whole in
    let rows = filled (optional_rows (map whole l.values) l.valid) in
    record {
      start : l.start ≤ l.at;
      end : l.at ≤ l.end;
      first : l.at ≡ l.start → whole l.last ≡ get_or rows l.start (pos 0);
      other : l.start < l.at → whole l.last ≡ get_or rows (l.at - 1) (pos 0);
      deltas : map whole l.deltas.items ≡ map (delta g.T.Integer.kind rows) (range_with_len 0 l.at);
    }

abbrev pub decreases-loop-at : goal.decreases-loop-at
decreases-loop-at g l = l.end - l.at
