use Rattle.std.proofs.Common.{◌∙◌, length, map, ap}
use Rattle.std.specs.Prelude.{nat_lt}
use Rattle.std.specs.List.{list_all}
use Rattle.vx_model.specs.Column.{column, column_of}
use Rattle.vx_model.specs.Plain.{plain}
use Rattle.vx_model.specs.Rows.{row_at, rows}
use Rattle.vx_model.specs.TreeType.{tree_type}
use Rattle.vx_schemes_common.specs.Narrowed.{narrowed_numbers}
use Rattle.vx_schemes_runs.proofs.Sparse.Tree.{numbers-are, numbers-rise, numbers-within}
use Rattle.vx_schemes_runs.proofs.integer.sparse.tree.values_and_rows.Goals as goal

pub rows_at-requires-clause-within : goal.rows_at-requires-clause-within
rows_at-requires-clause-within c =
    let t = c.args.array.now in
    ap (list_all (λ k. nat_lt k (length (rows t)))) c.as_slice.ensures ∙ numbers-within (column_of t) c.args.fill c.requires.fill c.in_ok-numbers.numbers c.in_ok-numbers.ensures

pub narrowed_rising-requires : goal.narrowed_rising-requires
narrowed_rising-requires c = numbers-rise (column_of c.args.array.now) c.args.fill c.requires.fill c.in_ok-numbers.numbers c.in_ok-numbers.ensures c.requires.few

pub returns : goal.returns
returns c =
    let t = c.args.array.now in
    let are = numbers-are (column_of t) c.args.fill c.requires.fill c.in_ok-numbers.numbers c.in_ok-numbers.ensures in
    let values = c.in_ok-values.ensures ∙ ap (λ ks. plain (column (tree_type t) (map (row_at (rows t)) ks))) (c.as_slice.ensures ∙ are) in
    let indices = c.in_ok-indices.ensures ∙ ap (λ ks. plain (narrowed_numbers ks)) are in
    λ i. (values i, indices i)
