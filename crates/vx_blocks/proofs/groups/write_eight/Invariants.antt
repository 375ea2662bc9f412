use Rattle.std.proofs.Common.{◌*◌, ◌≤◌, length, map, take, drop}
use Rattle.vx_base.specs.Packed.{kept_rows, packed_number}
use Rattle.vx_blocks.specs.Holds.{Holds}
use Rattle.vx_base.specs.Integers.{bits_in}
use Rattle.vx_blocks.proofs.groups.write_eight.Given as goal

abbrev pub invariant-loop-k : goal.invariant-loop-k
invariant-loop-k g l =
    record {
      within : l.len ≤ length l.out;
      holds : Holds (packed_number g.row.W (take l.k (drop l.at (kept_rows g.row.W (map (bits_in g.T.Integer.kind) (map g.T.Integer.whole l.values)) l.valid)))) (g.row.W * l.k) (take l.len l.out) l.acc l.fill;
    }
