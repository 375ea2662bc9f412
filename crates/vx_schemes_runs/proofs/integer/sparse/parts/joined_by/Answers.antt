use Rattle.std.proofs.Common.{◌≡◌, ◌≤◌, ◌*◌, ◌∙◌, cond, Some, None, sym, ap, subst}
use Rattle.std.specs.Prelude.{nat_lt}
use Rattle.std.proofs.lemmas.List.Sums.{count_by-le-length}
use Rattle.vx_base.specs.Answers.{Answers}
use Rattle.vx_base.specs.PlainValue.{is_null}
use Rattle.vx_model.specs.Column.{column_of}
use Rattle.vx_model.specs.Rows.{rows}
use Rattle.vx_model.proofs.MadeLemmas.{rows_fit}
use Rattle.vx_stats.specs.Stats.{null_count}
use Rattle.vx_schemes_runs.specs.Sparse.Tree.{sparse_fill, sparse_or_plain}
use Rattle.vx_sparse_array.specs.Filling.{filling_of, filled_over}
use Rattle.vx_schemes_runs.proofs.Sparse.Split.{cell-fits, trees-patch}
use Rattle.vx_schemes_runs.proofs.integer.sparse.parts.joined_by.Goals as goal

pub fill-requires-clause-nulls : goal.fill-requires-clause-nulls
fill-requires-clause-nulls c =
    let t = c.args.array.now in
    subst (λ n. n ≤ c.len-rows.result) (sym (ap (λ f. f.nulls) c.requires.frequent)) (subst (λ l. null_count (rows t) ≤ l) (sym c.len-rows.ensures) (count_by-le-length is_null (rows t)))

pub sparse_tree-requires-clause-fitting : goal.sparse_tree-requires-clause-fitting
sparse_tree-requires-clause-fitting c =
    let t = c.args.array.now in
    let told : c.fill.result ≡ sparse_fill (rows t) = c.fill.ensures ∙ (λ i. cond (nat_lt (9 * c.len-rows.ensures i) (10 * (c.requires.frequent i).nulls)) None (Some (c.requires.frequent i).value)) in
    cell-fits (column_of t) c.fill.result c.requires.integer (rows_fit t c.known.ensures) told

pub sparse_tree-requires-clause-patches : goal.sparse_tree-requires-clause-patches
sparse_tree-requires-clause-patches c =
    let t = c.args.array.now in
    let told : c.fill.result ≡ sparse_fill (rows t) = c.fill.ensures ∙ (λ i. cond (nat_lt (9 * c.len-rows.ensures i) (10 * (c.requires.frequent i).nulls)) None (Some (c.requires.frequent i).value)) in
    trees-patch (column_of t) c.fill.result c.args.trees c.in-Some.values c.in-Some.indices told (sym c.in-Some.is ∙ c.pair_of.ensures) c.requires.trees

pub returns-in-Some : goal.returns-in-Some
returns-in-Some c =
    let t = c.args.array.now in
    let told : c.fill.result ≡ sparse_fill (rows t) = c.fill.ensures ∙ (λ i. cond (nat_lt (9 * c.len-rows.ensures i) (10 * (c.requires.frequent i).nulls)) None (Some (c.requires.frequent i).value)) in
    subst (Answers c.sparse_tree.result) (ap (λ o. filled_over (filling_of o) (column_of t) c.in-Some.indices c.in-Some.values) told ∙ ap (sparse_or_plain (column_of t)) (sym c.in-Some.is ∙ c.pair_of.ensures)) c.sparse_tree.ensures

pub returns-in-None : goal.returns-in-None
returns-in-None c =
    let t = c.args.array.now in
    subst (Answers c.copy.result) (c.requires.plain ∙ ap (sparse_or_plain (column_of t)) (sym c.in-None.is ∙ c.pair_of.ensures)) c.copy.ensures
