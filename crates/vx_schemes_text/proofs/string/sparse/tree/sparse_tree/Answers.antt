use Rattle.std.proofs.Common.{◌≡◌, ◌∙◌, length, map, sym, ap, subst, true}
use Rattle.std.specs.Prelude.{nat_lt}
use Rattle.std.specs.List.{list_all}
use Rattle.std.proofs.lemmas.Bool.{and_parts}
use Rattle.vx_base.proofs.MakesLemmas.{Makes_ok}
use Rattle.vx_base.specs.PlainScalar.{fits, scalar}
use Rattle.vx_base.specs.PlainValue.{null}
use Rattle.vx_model.specs.Column.{column, column_of}
use Rattle.vx_model.specs.Plain.{plain}
use Rattle.vx_model.specs.Refusals.{patches_refusal}
use Rattle.vx_model.specs.Rows.{row_at, rows}
use Rattle.vx_model.specs.Tree.{patches, sparse_of}
use Rattle.vx_model.specs.TreeType.{tree_type}
use Rattle.vx_model.proofs.MadeLemmas.{rows_fit}
use Rattle.vx_sparse_array.specs.Filling.{filled_over, null_filling}
use Rattle.vx_sparse_array.proofs.FillingLemmas.{ArePatches, patches-fit}
use Rattle.vx_sparse_array.proofs.MakingLemmas.{patched-within, patches-admitted}
use Rattle.vx_sparse_array.proofs.SharedLemmas.{mostly-null-fits}
use Rattle.vx_schemes_text.specs.NullSparse.Laws.{texts-patch}
use Rattle.vx_schemes_text.proofs.string.sparse.tree.sparse_tree.Goals as goal

pub rows_at-requires-clause-within : goal.rows_at-requires-clause-within
rows_at-requires-clause-within c =
    let t = c.args.array.now in
    ap (list_all (λ k. nat_lt k (length (rows t)))) (c.as_slice.ensures ∙ c.in_ok-numbers.ensures) ∙ patched-within null_filling (rows t)

pub of_cell-requires : goal.of_cell-requires
of_cell-requires c =
    let t = c.args.array.now in
    subst (λ d. fits d null ≡ true) (sym c.dtype.ensures) (mostly-null-fits (column_of t) (rows_fit t c.known.ensures) (and_parts _ _ c.requires.dominated).1)

pub of_rising-patches-requires : goal.of_rising-patches-requires
of_rising-patches-requires c =
    let a = c.args in
    let t = a.array.now in
    let texts = c.in_ok-values.ensures ∙ ap (λ ns. plain (column (tree_type t) (map (row_at (rows t)) ns))) (c.as_slice.ensures ∙ c.in_ok-numbers.ensures) in
    let are = subst (ArePatches null_filling (column_of t) a.indices) (sym texts) (texts-patch (column_of t) a.indices c.requires.bytes (rows_fit t c.known.ensures) c.requires.indices) in
    ap (λ n. patches_refusal (patches n 0 a.indices c.in_ok-values.values)) c.len.ensures ∙ patches-admitted (length (rows t)) 0 a.indices _ (patches-fit null_filling (column_of t) a.indices _ are)

pub returns-in-Ok : goal.returns-in-Ok
returns-in-Ok c =
    let a = c.args in
    let t = a.array.now in
    let texts = c.in_ok-values.ensures ∙ ap (λ ns. plain (column (tree_type t) (map (row_at (rows t)) ns))) (c.as_slice.ensures ∙ c.in_ok-numbers.ensures) in
    let fill = c.in_ok-fill.ensures ∙ ap (λ d. scalar d null) c.dtype.ensures in
    let own = c.of_rising-patches.ensures ∙ ap (λ n. patches n 0 a.indices c.in_ok-values.values) c.len.ensures in
    Makes_ok _ _ _ _ c.in-Ok.ensures ∙ (λ i. sparse_of (own i) (fill i)) ∙ ap (filled_over null_filling (column_of t) a.indices) texts
