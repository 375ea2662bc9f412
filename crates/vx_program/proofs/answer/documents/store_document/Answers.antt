use Rattle.std.proofs.Common.{◌∙◌, sym}
use Rattle.std.proofs.lemmas.Result.{IfOk-weaker}
use Rattle.vx_program.proofs.Compression.{is_kept_as, is_not_kept}
use Rattle.vx_program.proofs.answer.documents.store_document.Goals as goal

pub returns-in-Some : goal.returns-in-Some
returns-in-Some c =
    let within = rw c.in-Some.is at c.in_ok-compressed.ensures.within in
    let made = rw c.in-Some.is at c.in_ok-compressed.ensures.made in
    IfOk-weaker c.kept.result _ _ (λ r e. e ∙ is_kept_as _ _ _ (sym within) made) c.kept.ensures

pub returns-in-None : goal.returns-in-None
returns-in-None c =
    let within = rw c.in-None.is at c.in_ok-compressed.ensures.within in
    (λ i. (c.refusal.ensures.status i, c.refusal.ensures.text i)) ∙ is_not_kept _ _ (sym within)
