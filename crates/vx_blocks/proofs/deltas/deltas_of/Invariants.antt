use Rattle.std.proofs.Common.{◌≡◌, ◌*◌, pos, length, map, min, get_or}
use Rattle.std.specs.List.{range_with_len}
use Rattle.vx_blocks.specs.Deltas.{filled, delta}
use Rattle.vx_blocks.specs.Optional.{optional_rows}
use Rattle.vx_blocks.proofs.DeltaRows.{before}
use Rattle.vx_blocks.proofs.deltas.deltas_of.Given as goal

abbrev pub invariant-loop-block : goal.invariant-loop-block
invariant-loop-block g l =
    let whole = g.T.Integer.whole in
    let rows = filled (optional_rows (map whole l.values) l.valid) in
    let end = min (1024 * l.block) (length l.values) in
    record {
      bases : map whole l.bases.items ≡ map (λ block. get_or rows (1024 * block) (pos 0)) (range_with_len 0 l.block);
      deltas : map whole l.deltas.items ≡ map (delta g.T.Integer.kind rows) (range_with_len 0 end);
      last : whole l.last ≡ before (pos 0) rows end;
    }
