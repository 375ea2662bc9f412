use Rattle.std.proofs.Common.{◌∙◌, length, ap, subst}
use Rattle.std.specs.Prelude.{nat_lt}
use Rattle.std.specs.List.{list_all}
use Rattle.vx_base.specs.Answers.{Answers}
use Rattle.vx_base.specs.declared.ptype.PType.TheVariants.{U64}
use Rattle.vx_base.specs.PlainScalar.{scalar}
use Rattle.vx_model.specs.Rows.{rows}
use Rattle.vx_sparse_array.specs.Filling.{value_filling}
use Rattle.vx_sparse_array.proofs.MakingLemmas.{made-admitted, made-is, patched-within}
use Rattle.vx_sparse_array.proofs.filled.over_value.Goals as goal

pub rows_at-requires-clause-within : goal.rows_at-requires-clause-within
rows_at-requires-clause-within c =
    let t = c.args.plain.now in ap (list_all (λ k. nat_lt k (length (rows t)))) (c.as_slice.ensures ∙ c.in_ok-numbers.ensures) ∙ patched-within (value_filling c.args.fill.value) (rows t)

pub filled-requires : goal.filled-requires
filled-requires c =
    let t = c.args.plain.now in
    made-admitted U64 (value_filling c.args.fill.value) t c.known.ensures _ _ c.in_ok-numbers.ensures c.as_slice.ensures _ c.in_ok-indices.ensures _ c.in_ok-values.ensures c.args.fill (λ i. scalar (c.requires.fill i) c.args.fill.value) _ c.len.ensures

pub returns : goal.returns
returns c =
    let t = c.args.plain.now in
    subst (Answers c.filled.result)
    (made-is U64 (value_filling c.args.fill.value) t c.known.ensures _ _ c.in_ok-numbers.ensures c.as_slice.ensures _ c.in_ok-indices.ensures _ c.in_ok-values.ensures c.args.fill (λ i. scalar (c.requires.fill i) c.args.fill.value) _ c.len.ensures) c.filled.ensures
