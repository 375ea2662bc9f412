use Rattle.std.proofs.Common.{◌≡◌, ◌∙◌, true, length, map, pos, sym, ap, subst}
use Rattle.std.specs.Prelude.{nat_lt}
use Rattle.std.specs.List.{list_all}
use Rattle.vx_base.specs.Answers.{Answers}
use Rattle.vx_base.specs.declared.ptype.PType.TheVariants.{U32}
use Rattle.vx_base.specs.Integers.{lies_in}
use Rattle.vx_base.specs.PlainScalar.{fits, scalar}
use Rattle.vx_base.specs.PlainValue.{null}
use Rattle.vx_model.specs.Column.{column_of}
use Rattle.vx_model.specs.Rows.{rows}
use Rattle.vx_model.proofs.MadeLemmas.{rows_fit}
use Rattle.vx_sparse_array.specs.Filling.{null_filling}
use Rattle.vx_sparse_array.proofs.MakingLemmas.{made-admitted, made-is, patched-held, patched-within}
use Rattle.vx_sparse_array.proofs.SharedLemmas.{mostly-null-fits}
use Rattle.vx_sparse_array.proofs.filled.over_nulls.Goals as goal

pub of_cell-requires : goal.of_cell-requires
of_cell-requires c = let t = c.args.plain.now in subst (λ d. fits d null ≡ true) (sym c.dtype.ensures) (mostly-null-fits (column_of t) (rows_fit t c.known.ensures) c.requires.mostly)

pub rows_at-requires-clause-within : goal.rows_at-requires-clause-within
rows_at-requires-clause-within c = let t = c.args.plain.now in ap (list_all (λ k. nat_lt k (length (rows t)))) (c.as_slice.ensures ∙ c.in_ok-numbers.ensures) ∙ patched-within null_filling (rows t)

pub narrow_indices-requires : goal.narrow_indices-requires
narrow_indices-requires c = ap (λ ns. list_all (lies_in U32) (map pos ns)) c.in_ok-numbers.ensures ∙ patched-held null_filling (rows c.args.plain.now) c.requires.few

pub filled-requires : goal.filled-requires
filled-requires c =
    let t = c.args.plain.now in
    made-admitted U32 null_filling t c.known.ensures _ _ c.in_ok-numbers.ensures c.as_slice.ensures _ c.in_ok-indices.ensures _ c.in_ok-values.ensures _ (c.in_ok-fill.ensures ∙ ap (λ d. scalar d null) c.dtype.ensures) _ c.len.ensures

pub returns : goal.returns
returns c =
    let t = c.args.plain.now in
    subst (Answers c.filled.result)
    (made-is U32 null_filling t c.known.ensures _ _ c.in_ok-numbers.ensures c.as_slice.ensures _ c.in_ok-indices.ensures _ c.in_ok-values.ensures _ (c.in_ok-fill.ensures ∙ ap (λ d. scalar d null) c.dtype.ensures) _ c.len.ensures) c.filled.ensures
