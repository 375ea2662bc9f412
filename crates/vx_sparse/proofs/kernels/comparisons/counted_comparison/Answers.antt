use Rattle.std.proofs.Common.{◌≡◌, ◌∙◌, true, false, sym}
use Rattle.std.specs.Prelude.{◌&&◌}
use Rattle.std.proofs.lemmas.Bool.{and_parts}
use Rattle.vx_base.specs.declared.error.VortexError.TheVariants.{MismatchedTypes}
use Rattle.vx_base.specs.PlainType.{is_flat, same_base}
use Rattle.vx_model.specs.Column.{column_of}
use Rattle.vx_model.specs.Tree.{sparse_of}
use Rattle.vx_rules.specs.Comparisons.{compare_refusal, comparison}
use Rattle.vx_rules.specs.Operations.{repeated}
use Rattle.vx_sparse.proofs.KernelAnswers.{compare-accepted, compare-refused}
use Rattle.vx_sparse.proofs.KernelTypes.{decides-err, decides-ok}
use Rattle.vx_sparse.proofs.kernels.comparisons.counted_comparison.Goals as goal

pub returns-then-not-are_comparable-clause-answer : goal.returns-then-not-are_comparable-clause-answer
returns-then-not-are_comparable-clause-answer g c =
    let p = c.args.patches.now in
    let fill = c.args.fill.now in
    let s = c.args.value.now in
    let col = column_of (sparse_of p fill) in
    let no : (is_flat fill.dtype && same_base fill.dtype s.dtype) ≡ false =
    (λ i. is_flat (sym c.dtype-own.ensures i) && same_base (sym c.dtype-own.ensures i) (sym c.dtype-other.ensures i)) ∙ sym c.are_comparable.ensures ∙ c.if-not-are_comparable.true in
    decides-err (compare_refusal col (repeated s col)) (λ out. column_of out ≡ comparison c.args.operator col (repeated s col)) MismatchedTypes (compare-refused p fill s no)

pub compared_patches-requires-clause-flat : goal.compared_patches-requires-clause-flat
compared_patches-requires-clause-flat g c =
    let yes = (λ i. is_flat (sym c.dtype-own.ensures i) && same_base (sym c.dtype-own.ensures i) (sym c.dtype-other.ensures i)) ∙ sym c.are_comparable.ensures ∙ c.if-not-are_comparable.false in
    (and_parts _ _ yes).0

pub compared_patches-requires-clause-base : goal.compared_patches-requires-clause-base
compared_patches-requires-clause-base g c =
    let yes = (λ i. is_flat (sym c.dtype-own.ensures i) && same_base (sym c.dtype-own.ensures i) (sym c.dtype-other.ensures i)) ∙ sym c.are_comparable.ensures ∙ c.if-not-are_comparable.false in
    (and_parts _ _ yes).1

pub returns-clause-answer : goal.returns-clause-answer
returns-clause-answer g c =
    let p = c.args.patches.now in
    let fill = c.args.fill.now in
    let s = c.args.value.now in
    let col = column_of (sparse_of p fill) in
    let yes : (is_flat fill.dtype && same_base fill.dtype s.dtype) ≡ true =
    (λ i. is_flat (sym c.dtype-own.ensures i) && same_base (sym c.dtype-own.ensures i) (sym c.dtype-other.ensures i)) ∙ sym c.are_comparable.ensures ∙ c.if-not-are_comparable.false in
    decides-ok (compare_refusal col (repeated s col)) (λ out. column_of out ≡ comparison c.args.operator col (repeated s col)) c.compared_patches.result (compare-accepted p fill s yes) c.compared_patches.ensures.answer
