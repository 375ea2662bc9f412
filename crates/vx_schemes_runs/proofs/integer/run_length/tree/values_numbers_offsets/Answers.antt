use Rattle.std.proofs.Common.{◌∙◌, ap}
use Rattle.std.specs.Prelude.{nat_lt, length}
use Rattle.std.specs.List.{list_all}
use Rattle.vx_model.specs.Column.{column_of}
use Rattle.vx_model.specs.Rows.{rows}
use Rattle.vx_schemes_runs.specs.RunLength.Laws.{heads-within}
use Rattle.vx_schemes_runs.proofs.integer.run_length.tree.values_numbers_offsets.Goals as goal

pub rows_at-requires-clause-within : goal.rows_at-requires-clause-within
rows_at-requires-clause-within c =
    let t = c.args.array.now in
    ap (list_all (λ k. nat_lt k (length (rows t)))) (c.as_slice.ensures ∙ c.in_ok-heads.ensures.heads) ∙ heads-within (column_of t)
