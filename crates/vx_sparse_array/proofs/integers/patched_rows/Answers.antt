use Rattle.std.proofs.Common.{◌≡◌, ◌∙◌, true, rules, sym, ap, subst, to_z, of_z}
use Rattle.std.specs.Prelude.{FitsSigned}
use Rattle.std.specs.Int.{w128}
use Rattle.std.proofs.lemmas.Int.{to_z-of_z}
use Rattle.vx_base.specs.Answers.{Answers}
use Rattle.vx_base.specs.Integers.{lies_in}
use Rattle.vx_base.specs.PlainType.{integer_of}
use Rattle.vx_base.specs.PlainValue.{int}
use Rattle.vx_model.specs.Rows.{rows}
use Rattle.vx_model.specs.TreeType.{tree_type}
use Rattle.vx_sparse_array.specs.Filling.{filling_of, value_filling, patched_rows}
use Rattle.vx_sparse_array.proofs.integers.patched_rows.Goals as goal

pub rows_of_ints_but-requires-clause-held : goal.rows_of_ints_but-requires-clause-held
rows_of_ints_but-requires-clause-held c =
    let fits : FitsSigned w128 c.in-Some.fill = search rules in
    rw (to_z-of_z w128 c.in-Some.fill fits) (subst (λ p. lies_in p c.in-Some.fill ≡ true) (sym (ap (λ t. integer_of (tree_type t)) c.as_primitive.ensures.tree)) (c.requires.held c.in-Some.fill c.in-Some.is))

pub returns-in-Some : goal.returns-in-Some
returns-in-Some c =
    let fits : FitsSigned w128 c.in-Some.fill = search rules in
    let same : patched_rows (value_filling (int (to_z w128 (of_z w128 c.in-Some.fill)))) (rows c.args.plain.now) ≡ patched_rows (filling_of c.args.fill) (rows c.args.plain.now) =
    ap (λ z. patched_rows (value_filling (int z)) (rows c.args.plain.now)) (to_z-of_z w128 c.in-Some.fill fits) ∙ ap (λ o. patched_rows (filling_of o) (rows c.args.plain.now)) (sym c.in-Some.is) in
    subst (Answers c.rows_of_ints_but.result) (ap (λ t. patched_rows (value_filling (int (to_z w128 (of_z w128 c.in-Some.fill)))) (rows t)) c.as_primitive.ensures.tree ∙ same) c.rows_of_ints_but.ensures
