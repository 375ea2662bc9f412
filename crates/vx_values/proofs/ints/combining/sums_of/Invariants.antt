use Rattle.std.proofs.Common.{◌*◌, map}
use Rattle.vx_values.specs.Combined.{sum_at}
use Rattle.vx_values.specs.IntsOf.{wholes_of}
use Rattle.vx_values.proofs.BlockGrowth.{IsGrown}
use Rattle.vx_values.proofs.ints.combining.sums_of.Given as goal

abbrev pub invariant-loop-block : goal.invariant-loop-block
invariant-loop-block g l = IsGrown (sum_at l.of_days l.of_seconds (wholes_of l.days) (wholes_of l.seconds) (wholes_of l.subseconds)) l.len (map g.S.Integer.whole l.sums.items) (1024 * l.block)
