use Rattle.std.proofs.Common.{◌≡◌, ◌∙◌, length, sym}
use Rattle.std.proofs.lemmas.Bool.{eqb-true}
use Rattle.vx_base.specs.declared.error.VortexError.TheVariants.{LengthMismatch}
use Rattle.vx_model.specs.Column.{column_of}
use Rattle.vx_model.specs.Tree.{sparse_of}
use Rattle.vx_rules.specs.Selections.{filtered, mask_refusal}
use Rattle.vx_sparse.proofs.FilteredRows.{mask-accepted, mask-refused}
use Rattle.vx_sparse.proofs.KernelTypes.{decides-err, decides-ok}
use Rattle.vx_sparse.proofs.kernels.filters.filtered.Goals as goal

pub returns-then-not-has_bits-clause-answer : goal.returns-then-not-has_bits-clause-answer
returns-then-not-has_bits-clause-answer c =
    let p = c.args.patches.now in
    let fill = c.args.fill.now in
    let keep = c.args.keep.now in
    decides-err (mask_refusal (column_of (sparse_of p fill)) keep) (λ out. column_of out ≡ filtered (column_of (sparse_of p fill)) keep) LengthMismatch
    (mask-refused p fill keep (sym c.has_bits.ensures ∙ c.if-not-has_bits.true))

pub kept_rows-requires-clause-bits : goal.kept_rows-requires-clause-bits
kept_rows-requires-clause-bits c = eqb-true (length c.args.keep.now) c.args.patches.now.array_len (sym c.has_bits.ensures ∙ c.if-not-has_bits.false)

pub returns-clause-answer : goal.returns-clause-answer
returns-clause-answer c =
    let p = c.args.patches.now in
    let fill = c.args.fill.now in
    let keep = c.args.keep.now in
    decides-ok (mask_refusal (column_of (sparse_of p fill)) keep) (λ out. column_of out ≡ filtered (column_of (sparse_of p fill)) keep) c.kept_rows.result
    (mask-accepted p fill keep (sym c.has_bits.ensures ∙ c.if-not-has_bits.false)) c.kept_rows.ensures.answer
