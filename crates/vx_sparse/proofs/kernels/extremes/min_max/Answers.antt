use Rattle.std.proofs.Common.{◌≡◌, ◌∙◌, true, false, sym, ap, subst}
use Rattle.vx_base.specs.declared.error.VortexError.TheVariants.{MismatchedTypes}
use Rattle.vx_base.specs.Answers.{OrMemory, SurelyDecided}
use Rattle.vx_base.specs.PlainType.{is_flat}
use Rattle.vx_base.specs.TypeOf.{type_of}
use Rattle.vx_model.specs.Column.{column_of}
use Rattle.vx_model.specs.Tree.{sparse_of}
use Rattle.vx_rules.specs.Aggregates.{min_max, min_max_refusal}
use Rattle.vx_sparse.specs.CellPairs.{FitPair, scalar_pair}
use Rattle.vx_sparse.specs.Kernels.{extremes, is_summable, row_values}
use Rattle.vx_sparse.proofs.KernelAnswers.{extremes-accepted, extremes-are, extremes-of_type, extremes-refused}
use Rattle.vx_sparse.proofs.KernelTypes.{decides-err, decides-ok, surely-err, surely-ok}
use Rattle.vx_sparse.proofs.kernels.extremes.min_max.Goals as goal

pub returns-then-not-is_flat-clause-answer : goal.returns-then-not-is_flat-clause-answer
returns-then-not-is_flat-clause-answer c =
    let p = c.args.patches.now in
    let fill = c.args.fill.now in
    let col = column_of (sparse_of p fill) in
    let no : is_flat fill.dtype ≡ false = ap is_flat (sym c.dtype-kind.ensures) ∙ sym c.is_flat.ensures ∙ c.if-not-is_flat.true in
    decides-err (min_max_refusal col) (λ pair. pair ≡ min_max col) MismatchedTypes (extremes-refused p fill no)

pub returns-then-not-is_flat-clause-no_memory : goal.returns-then-not-is_flat-clause-no_memory
returns-then-not-is_flat-clause-no_memory c =
    let p = c.args.patches.now in
    let fill = c.args.fill.now in
    let col = column_of (sparse_of p fill) in
    let no : is_flat fill.dtype ≡ false = ap is_flat (sym c.dtype-kind.ensures) ∙ sym c.is_flat.ensures ∙ c.if-not-is_flat.true in
    λ s. surely-err (min_max_refusal col) (λ pair. pair ≡ min_max col) MismatchedTypes (extremes-refused p fill no)

pub scalar_pair-requires : goal.scalar_pair-requires
scalar_pair-requires c =
    let p = c.args.patches.now in
    let fill = c.args.fill.now in
    let yes : is_flat fill.dtype ≡ true = ap is_flat (sym c.dtype-kind.ensures) ∙ sym c.is_flat.ensures ∙ c.if-not-is_flat.false in
    subst (λ e. FitPair (type_of c.dtype-kind.result.now) e) (sym c.row_extremes.ensures)
    (subst (λ t. FitPair t (extremes (row_values p fill))) (sym c.dtype-kind.ensures) (extremes-of_type p fill c.known.ensures c.requires c.known-2.ensures yes))

pub returns-clause-answer : goal.returns-clause-answer
returns-clause-answer c =
    let p = c.args.patches.now in
    let fill = c.args.fill.now in
    let col = column_of (sparse_of p fill) in
    let yes : is_flat fill.dtype ≡ true = ap is_flat (sym c.dtype-kind.ensures) ∙ sym c.is_flat.ensures ∙ c.if-not-is_flat.false in
    let same = (λ i. scalar_pair (c.dtype-kind.ensures i) (c.row_extremes.ensures i)) ∙ extremes-are p fill c.known.ensures c.requires c.known-2.ensures yes in
    decides-ok (min_max_refusal col) (λ pair. pair ≡ min_max col) c.scalar_pair.result (extremes-accepted p fill yes) (subst (λ x. OrMemory c.scalar_pair.result (λ pair. pair ≡ x)) same c.scalar_pair.ensures.answer)

pub returns-clause-no_memory : goal.returns-clause-no_memory
returns-clause-no_memory c =
    let p = c.args.patches.now in
    let fill = c.args.fill.now in
    let col = column_of (sparse_of p fill) in
    let yes : is_flat fill.dtype ≡ true = ap is_flat (sym c.dtype-kind.ensures) ∙ sym c.is_flat.ensures ∙ c.if-not-is_flat.false in
    let same = (λ i. scalar_pair (c.dtype-kind.ensures i) (c.row_extremes.ensures i)) ∙ extremes-are p fill c.known.ensures c.requires c.known-2.ensures yes in
    λ s. subst (λ r. SurelyDecided (min_max_refusal col) (λ pair. pair ≡ min_max col) r) (sym (c.scalar_pair.ensures.no_memory (ap is_summable c.dtype-kind.ensures ∙ s)))
    (surely-ok (min_max_refusal col) (λ pair. pair ≡ min_max col) _ (extremes-accepted p fill yes) same)
