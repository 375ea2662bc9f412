use Rattle.std.proofs.Common.{◌+◌, ◌*◌, ◌^◌, length, map, take}
use Rattle.vx_base.specs.Packed.{kept_rows, packed_number}
use Rattle.vx_blocks.specs.Holds.{Holds}
use Rattle.vx_base.specs.Integers.{bits_in}
use Rattle.vx_blocks.proofs.packing.pack_by.Given as goal

abbrev pub invariant-loop-group : goal.invariant-loop-group
invariant-loop-group g l =
    let before = l.fn.out.items in
    Holds (packed_number 8 before + 2 ^ (8 * length before) * packed_number g.row.W (take (64 * l.group) (kept_rows g.row.W (map (bits_in g.T.Integer.kind) (map g.T.Integer.whole l.values)) l.valid))) (8 * length before + g.row.W * (64 * l.group)) l.out.items 0 0

abbrev pub invariant-loop-i : goal.invariant-loop-i
invariant-loop-i g l =
    let before = l.fn.out.items in
    Holds (packed_number 8 before + 2 ^ (8 * length before) * packed_number g.row.W (take l.i (kept_rows g.row.W (map (bits_in g.T.Integer.kind) (map g.T.Integer.whole l.values)) l.valid))) (8 * length before + g.row.W * l.i) l.out.items l.acc l.fill
