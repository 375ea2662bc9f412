use Rattle.std.proofs.Common.{◌≡◌, map, take}
use Rattle.vx_rows.specs.Pairs.{bytes_hold}
use Rattle.vx_rows.proofs.kernels.byte_rows.write_holds.Given as goal

abbrev pub invariant-loop-row : goal.invariant-loop-row
invariant-loop-row l = take l.row l.bits ≡ map (bytes_hold l.operator l.value) (take l.row l.rows)
