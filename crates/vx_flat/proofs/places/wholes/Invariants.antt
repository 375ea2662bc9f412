use Rattle.std.proofs.Common.{◌≡◌, take}
use Rattle.vx_values.specs.IntsOf.{wholes_of}
use Rattle.vx_flat.proofs.places.wholes.Given as goal

abbrev pub invariant-loop-row : goal.invariant-loop-row
invariant-loop-row l = l.wholes.items ≡ take l.row (wholes_of l.fn.ints)
