use Rattle.std.proofs.Common.{ap, ◌∙◌, ◌^◌, ◌-◌, min, map}
use Rattle.vx_base.specs.TypeOf.{type_of, value_of}
use Rattle.vx_flat.specs.Ways.{way_of}
use Rattle.vx_flat.proofs.FewWayLemmas.{count_at-Here}
use Rattle.vx_flat.proofs.counting.rows_at.Goals as goal

pub returns : goal.returns
returns c = c.column_rows.ensures ∙ ap (λ k. min k (2 ^ 64 - 1)) (count_at-Here (way_of c.args.way.now) (type_of c.args.dtype.now) (map value_of c.args.values.now))
