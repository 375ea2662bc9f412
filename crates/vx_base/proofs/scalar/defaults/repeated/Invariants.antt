use Rattle.std.proofs.Common.{◌≡◌, map}
use Rattle.std.specs.Prelude.{replicate}
use Rattle.vx_base.specs.TypeOf.{value_of}
use Rattle.vx_base.proofs.scalar.defaults.repeated.Given as goal

abbrev pub invariant-loop : goal.invariant-loop
invariant-loop l = map value_of l.values.items ≡ replicate l.counter (value_of l.value)
