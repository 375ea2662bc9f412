use Rattle.std.proofs.Common.{◌≡◌, map}
use Rattle.vx_base.specs.PlainValue.{int}
use Rattle.vx_values.proofs.Placed.{patched_to}
use Rattle.vx_values.proofs.byte_rows.filling.write_patches.Given as goal

abbrev pub invariant-loop-place : goal.invariant-loop-place
invariant-loop-place g l = l.rows.items ≡ patched_to (map int (map g.C.Integer.whole l.fn.indices)) l.fn.offset l.fn.len l.patches l.fn.fill l.place
