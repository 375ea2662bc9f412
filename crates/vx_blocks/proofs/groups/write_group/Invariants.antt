use Rattle.std.proofs.Common.{◌≡◌, ◌*◌, map, take, drop}
use Rattle.vx_base.specs.Packed.{kept_rows, packed_number}
use Rattle.vx_base.specs.Integers.{bits_in}
use Rattle.vx_blocks.proofs.groups.write_group.Given as goal

abbrev pub invariant-loop-unit : goal.invariant-loop-unit
invariant-loop-unit g l = packed_number 8 (take (g.row.W * l.unit) l.buffer) ≡ packed_number g.row.W (take (8 * l.unit) (drop l.start (kept_rows g.row.W (map (bits_in g.T.Integer.kind) (map g.T.Integer.whole l.values)) l.valid)))
