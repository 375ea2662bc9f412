use Rattle.std.proofs.Common.{◌≡◌, ◌∙◌, Some, rules, sym, ap}
use Rattle.std.specs.Prelude.{FitsSigned, option_map}
use Rattle.std.specs.Int.{w128}
use Rattle.std.proofs.lemmas.Int.{to_z-of_z}
use Rattle.vx_base.specs.PlainType.{integer_of, nullability_of}
use Rattle.vx_model.specs.Column.{column_of}
use Rattle.vx_model.specs.Refusals.{sequence_refusal}
use Rattle.vx_model.specs.Tree.{sequence}
use Rattle.vx_model.specs.TreeType.{tree_type}
use Rattle.vx_model.proofs.MadeLemmas.{rows_fit}
use Rattle.vx_schemes_common.proofs.KeptLemmas.{surely_decided}
use Rattle.vx_schemes_runs.specs.Sequence.Tree.{sequence_over}
use Rattle.vx_schemes_runs.proofs.Sequence.Verdict.{sequence-admitted, surely_err}
use Rattle.vx_schemes_runs.proofs.integer.sequence.tree.sequence_made.Goals as goal

pub returns-in_ok-tree-in-Some : goal.returns-in_ok-tree-in-Some
returns-in_ok-tree-in-Some c =
    let t = c.args.array.now in
    let p : c.ptype.result ≡ integer_of (tree_type t) = c.ptype.ensures ∙ ap integer_of c.dtype-dtype.ensures in
    let n : c.nullability.result ≡ nullability_of (tree_type t) = c.nullability.ensures ∙ ap nullability_of c.dtype-dtype.ensures in
    let held-first : FitsSigned w128 c.in-Some.first = search rules in
    let held-step : FitsSigned w128 c.in-Some.step = search rules in
    let first = to_z-of_z w128 c.in-Some.first held-first in
    let step = to_z-of_z w128 c.in-Some.step held-step in
    let found = sym c.in-Some.is ∙ c.sequence_in.ensures in
    let none = (λ i. sequence_refusal (p i) (first i) (step i) (c.len.ensures i)) ∙ sequence-admitted (column_of t) (c.in-Some.first, c.in-Some.step) c.requires.integer (rows_fit t c.known.ensures) found in
    ap Some (surely_decided _ _ _ none c.in_ok-tree-in-Some.ensures ∙ (λ i. sequence (p i) (n i) (first i) (step i) (c.len.ensures i))) ∙ ap (option_map (sequence_over (column_of t))) found

pub returns-in_err-tree-in-Some : goal.returns-in_err-tree-in-Some
returns-in_err-tree-in-Some c =
    let t = c.args.array.now in
    let p : c.ptype.result ≡ integer_of (tree_type t) = c.ptype.ensures ∙ ap integer_of c.dtype-dtype.ensures in
    let held-first : FitsSigned w128 c.in-Some.first = search rules in
    let held-step : FitsSigned w128 c.in-Some.step = search rules in
    let first = to_z-of_z w128 c.in-Some.first held-first in
    let step = to_z-of_z w128 c.in-Some.step held-step in
    let found = sym c.in-Some.is ∙ c.sequence_in.ensures in
    let none = (λ i. sequence_refusal (p i) (first i) (step i) (c.len.ensures i)) ∙ sequence-admitted (column_of t) (c.in-Some.first, c.in-Some.step) c.requires.integer (rows_fit t c.known.ensures) found in
    absurd (surely_err _ _ _ none c.in_err-tree-in-Some.ensures)
