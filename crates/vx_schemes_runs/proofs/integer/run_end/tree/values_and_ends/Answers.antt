use Rattle.std.proofs.Common.{◌≡◌, ◌-◌, ◌^◌, ◌∙◌, map, ap, arith}
use Rattle.std.specs.Prelude.{nat_lt, length}
use Rattle.std.specs.List.{list_all}
use Rattle.vx_model.specs.Column.{column_of}
use Rattle.vx_model.specs.Plain.{plain}
use Rattle.vx_model.specs.Rows.{rows}
use Rattle.vx_model.specs.WellFormed.{ascend}
use Rattle.vx_model.proofs.RisingLemmas.{ascend-lower}
use Rattle.vx_schemes_common.specs.Narrowed.{number_rows, narrowed_numbers}
use Rattle.vx_schemes_runs.specs.RowsAt.{rows_at}
use Rattle.vx_schemes_runs.specs.RunEnd.Laws.{lasts-within, ends-rise}
use Rattle.vx_schemes_runs.specs.RunEnd.Tree.{ends_in}
use Rattle.vx_schemes_runs.proofs.integer.run_end.tree.values_and_ends.Goals as goal

pub rows_at-requires-clause-within : goal.rows_at-requires-clause-within
rows_at-requires-clause-within c =
    let t = c.args.array.now in
    let numbers : c.as_slice-2.result.now ≡ map (λ end. end - 1) (ends_in (column_of t)) = c.as_slice-2.ensures ∙ c.in_ok-lasts.ensures ∙ ap (map (λ end. end - 1)) (c.as_slice.ensures ∙ c.in_ok-ends.ensures) in
    ap (list_all (λ k. nat_lt k (length (rows t)))) numbers ∙ lasts-within (column_of t)

pub narrowed_rising-requires : goal.narrowed_rising-requires
narrowed_rising-requires c =
    let t = c.args.array.now in
    ap (λ ends. ascend 0 (2 ^ 64) (number_rows ends)) c.in_ok-ends.ensures ∙ ascend-lower 1 0 (2 ^ 64) (number_rows (ends_in (column_of t))) (omega arith) (ends-rise (column_of t) c.requires.few)

pub returns-clause-values : goal.returns-clause-values
returns-clause-values c =
    let t = c.args.array.now in
    let numbers : c.as_slice-2.result.now ≡ map (λ end. end - 1) (ends_in (column_of t)) = c.as_slice-2.ensures ∙ c.in_ok-lasts.ensures ∙ ap (map (λ end. end - 1)) (c.as_slice.ensures ∙ c.in_ok-ends.ensures) in
    c.in_ok-values.ensures ∙ ap (λ ks. plain (rows_at (column_of t) ks)) numbers

pub returns-clause-ends : goal.returns-clause-ends
returns-clause-ends c = c.in_ok-narrowed_rising.ensures ∙ ap (λ ends. plain (narrowed_numbers ends)) c.in_ok-ends.ensures
