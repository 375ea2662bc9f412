use Rattle.std.proofs.Common.{◌≡◌, ◌<◌, ◌+◌, ◌*◌, ℕ, pos, map, get_or}
use Rattle.vx_base.specs.Packed.{packed_row}
use Rattle.vx_base.specs.Wrapping.{wrap}
use Rattle.vx_blocks.proofs.reading.read_eights.Given as goal

abbrev pub invariant-loop-g : goal.invariant-loop-g
invariant-loop-g g l = (k : ℕ) → k < 8 * l.g → get_or (map g.T.Integer.whole l.out) k (pos 0) ≡ wrap g.T.Integer.kind (pos (packed_row l.packed g.row.W (8 * l.eight + k)))

abbrev pub invariant-loop-j : goal.invariant-loop-j
invariant-loop-j g l = (k : ℕ) → k < 8 * l.g + l.j → get_or (map g.T.Integer.whole l.out) k (pos 0) ≡ wrap g.T.Integer.kind (pos (packed_row l.packed g.row.W (8 * l.eight + k)))
