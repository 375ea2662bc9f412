use Rattle.std.proofs.Common.{◌≡◌, [], map}
use Rattle.std.specs.Prelude.{replicate}
use Rattle.vx_base.specs.TypeOf.{value_of}
use Rattle.vx_flat.proofs.within.empty_columns.Given as goal

abbrev pub invariant-loop : goal.invariant-loop
invariant-loop l = map (λ column. map value_of column.items) l.columns.items ≡ replicate l.counter []
