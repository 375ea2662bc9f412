use Rattle.std.proofs.Common.{◌≡◌, ◌*◌, map}
use Rattle.std.specs.List.{range_with_len}
use Rattle.vx_base.specs.Undelta.{undelta_row}
use Rattle.vx_blocks.proofs.undeltas.undelta.Given as goal

abbrev pub invariant-loop-block : goal.invariant-loop-block
invariant-loop-block g l =
    let row = undelta_row g.T.Integer.kind (map g.T.Integer.whole l.bases) (map g.T.Integer.whole l.deltas) in
    map g.T.Integer.whole l.rows.items ≡ map row (range_with_len 0 (1024 * l.block))
