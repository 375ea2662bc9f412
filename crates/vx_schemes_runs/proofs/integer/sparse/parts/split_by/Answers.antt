use Rattle.std.proofs.Common.{◌≡◌, ◌≤◌, ◌*◌, ◌∙◌, cond, Some, None, sym, ap, subst}
use Rattle.std.specs.Prelude.{◌==◌, nat_lt}
use Rattle.std.proofs.lemmas.List.Sums.{count_by-le-length}
use Rattle.vx_base.specs.Answers.{Answers}
use Rattle.vx_base.specs.PlainValue.{is_null}
use Rattle.vx_model.specs.Column.{column_of}
use Rattle.vx_model.specs.Rows.{rows}
use Rattle.vx_model.proofs.MadeLemmas.{rows_fit}
use Rattle.vx_stats.specs.Stats.{null_count}
use Rattle.vx_scheme.specs.Meaning.{split_of}
use Rattle.vx_schemes_runs.proofs.Sparse.Split.{shared_of, shared-split, unshared-split}
use Rattle.vx_schemes_runs.proofs.integer.sparse.parts.split_by.Goals as goal

pub finished_by-requires : goal.finished_by-requires
finished_by-requires c =
    let t = c.args.array.now in
    let told : c.shared.result ≡ shared_of (column_of t) = c.shared.ensures ∙ (λ i. cond ((c.requires.frequent i).values == 0) (Some None) (cond ((c.requires.frequent i).often == c.len-rows.ensures i) (Some (Some (c.requires.frequent i).value)) None)) in
    (shared-split (column_of t) c.requires.integer (rows_fit t c.known.ensures) c.requires.some c.in-Some.value (sym told ∙ c.in-Some.is)).0

pub returns-in-Some : goal.returns-in-Some
returns-in-Some c =
    let t = c.args.array.now in
    let told : c.shared.result ≡ shared_of (column_of t) = c.shared.ensures ∙ (λ i. cond ((c.requires.frequent i).values == 0) (Some None) (cond ((c.requires.frequent i).often == c.len-rows.ensures i) (Some (Some (c.requires.frequent i).value)) None)) in
    subst (λ x. Answers c.finished_by.result (split_of x)) (sym (shared-split (column_of t) c.requires.integer (rows_fit t c.known.ensures) c.requires.some c.in-Some.value (sym told ∙ c.in-Some.is)).1) c.finished_by.ensures

pub fill-requires-clause-nulls : goal.fill-requires-clause-nulls
fill-requires-clause-nulls c =
    let t = c.args.array.now in
    subst (λ n. n ≤ c.len-rows.result) (sym (ap (λ f. f.nulls) c.requires.frequent)) (subst (λ l. null_count (rows t) ≤ l) (sym c.len-rows.ensures) (count_by-le-length is_null (rows t)))

pub parts_by-requires-clause-fill : goal.parts_by-requires-clause-fill
parts_by-requires-clause-fill c = c.fill.ensures ∙ (λ i. cond (nat_lt (9 * c.len-rows.ensures i) (10 * (c.requires.frequent i).nulls)) None (Some (c.requires.frequent i).value))

pub returns-in-None : goal.returns-in-None
returns-in-None c =
    let t = c.args.array.now in
    let told : c.shared.result ≡ shared_of (column_of t) = c.shared.ensures ∙ (λ i. cond ((c.requires.frequent i).values == 0) (Some None) (cond ((c.requires.frequent i).often == c.len-rows.ensures i) (Some (Some (c.requires.frequent i).value)) None)) in
    subst (λ s. Answers c.parts_by.result (split_of s)) (sym (unshared-split (column_of t) (sym told ∙ c.in-None.is))) c.parts_by.ensures
