use Rattle.std.proofs.Common.{◌∙◌}
use Rattle.vx_base.proofs.MakesLemmas.{MakesSurely_err}
use Rattle.vx_model.specs.Refusals.{patches_refusal}
use Rattle.vx_model.specs.Tree.{patches}
use Rattle.vx_sparse_array.proofs.ResolvedLemmas.{resolved-admitted}
use Rattle.vx_sparse_array.proofs.resolved.resolved.Goals as goal

pub returns-in-Err : goal.returns-in-Err
returns-in-Err c =
    let values = c.in_ok-values.ensures ∙ c.values.ensures in
    absurd (MakesSurely_err _ _ _ _ ((λ i. patches_refusal (patches (c.array_len.ensures i) 0 (c.in_ok-indices.ensures i) (values i))) ∙ resolved-admitted c.args.patches.now c.known.ensures) c.in-Err.ensures)
