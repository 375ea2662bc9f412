use Rattle.std.proofs.Common.{◌≡◌, ◌∙◌, ◌+◌, sym, subst, arith}
use Rattle.std.proofs.lemmas.Bool.{ltb-true}
use Rattle.vx_base.specs.declared.error.VortexError.TheVariants.{OutOfBounds}
use Rattle.vx_base.specs.Answers.{OrMemory, SurelyDecided}
use Rattle.vx_model.specs.Column.{column_of}
use Rattle.vx_model.specs.Tree.{sparse_of}
use Rattle.vx_rules.specs.Selections.{row_refusal, row_scalar}
use Rattle.vx_sparse.proofs.KernelAnswers.{placed, row-accepted, row-is, row-refused}
use Rattle.vx_sparse.proofs.KernelTypes.{decides-err, decides-ok, surely-err, surely-ok}
use Rattle.vx_sparse.proofs.kernels.single_rows.counted_row.Goals as goal

pub returns-then-not-has_row-clause-answer : goal.returns-then-not-has_row-clause-answer
returns-then-not-has_row-clause-answer g c =
    let p = c.args.patches.now in
    let fill = c.args.fill.now in
    let col = column_of (sparse_of p fill) in
    decides-err (row_refusal col c.args.row) (λ s. s ≡ row_scalar col c.args.row) OutOfBounds (row-refused p fill c.args.row (sym c.has_row.ensures ∙ c.if-not-has_row.true))

pub returns-then-not-has_row-clause-no_memory : goal.returns-then-not-has_row-clause-no_memory
returns-then-not-has_row-clause-no_memory g c =
    let p = c.args.patches.now in
    let fill = c.args.fill.now in
    let col = column_of (sparse_of p fill) in
    λ s. surely-err (row_refusal col c.args.row) (λ s. s ≡ row_scalar col c.args.row) OutOfBounds (row-refused p fill c.args.row (sym c.has_row.ensures ∙ c.if-not-has_row.true))

pub search-place-requires : goal.search-place-requires
search-place-requires g c = ltb-true _ _ (sym c.has_row.ensures ∙ c.if-not-has_row.false)

pub placed_row-requires-clause-within : goal.placed_row-requires-clause-within
placed_row-requires-clause-within g c = let p = c.args.patches.now in placed p (p.offset + c.args.row) c.search-place.result c.known.ensures c.search-place.ensures.place

pub returns-clause-answer : goal.returns-clause-answer
returns-clause-answer g c =
    let p = c.args.patches.now in
    let fill = c.args.fill.now in
    let col = column_of (sparse_of p fill) in
    let there = sym c.has_row.ensures ∙ c.if-not-has_row.false in
    let same = row-is p fill c.args.row c.search-place.result (ltb-true _ _ there) (c.search-place.ensures.value fill.value) in
    decides-ok (row_refusal col c.args.row) (λ s. s ≡ row_scalar col c.args.row) c.placed_row.result (row-accepted p fill c.args.row there) (subst (λ x. OrMemory c.placed_row.result (λ s. s ≡ x)) same c.placed_row.ensures.answer)

pub returns-clause-no_memory : goal.returns-clause-no_memory
returns-clause-no_memory g c =
    let p = c.args.patches.now in
    let fill = c.args.fill.now in
    let col = column_of (sparse_of p fill) in
    let there = sym c.has_row.ensures ∙ c.if-not-has_row.false in
    let same = row-is p fill c.args.row c.search-place.result (ltb-true _ _ there) (c.search-place.ensures.value fill.value) in
    λ s. subst (λ r. SurelyDecided (row_refusal col c.args.row) (λ s. s ≡ row_scalar col c.args.row) r) (sym (c.placed_row.ensures.no_memory s))
    (surely-ok (row_refusal col c.args.row) (λ s. s ≡ row_scalar col c.args.row) _ (row-accepted p fill c.args.row there) same)

pub returns-clause-probes : goal.returns-clause-probes
returns-clause-probes g c = omega (arith, c.search-place.ensures.probes, c.search-place.ensures.fewer)
