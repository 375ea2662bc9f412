use Rattle.std.proofs.Common.{◌≡◌, sym, subst}
use Rattle.vx_base.specs.Answers.{Decided}
use Rattle.vx_model.specs.Column.{column_of}
use Rattle.vx_rules.specs.Selections.{filtered, mask_refusal}
use Rattle.vx_sparse.proofs.kernels.arrays.SparseArraySparseKernels.filter.Goals as goal

pub returns-clause-answer : goal.returns-clause-answer
returns-clause-answer c =
    let keep = c.args.keep.now in
    subst (λ t. Decided (mask_refusal (column_of t) keep) (λ out. column_of out ≡ filtered (column_of t) keep) c.filtered.result) (sym c.parts.ensures.tree) c.filtered.ensures.answer
