use Rattle.std.proofs.Common.{◌∙◌, sym}
use Rattle.std.proofs.lemmas.Result.{IfOk-weaker}
use Rattle.vx_program.proofs.Compression.{is_reported, is_not_reported}
use Rattle.vx_program.proofs.answer.documents.compress_document.Goals as goal

pub returns-in-Some : goal.returns-in-Some
returns-in-Some c =
    let within = rw c.in-Some.is at c.in_ok-compressed.ensures.within in
    let made = rw c.in-Some.is at c.in_ok-compressed.ensures.made in
    IfOk-weaker c.report.result _ _ (λ r e. e ∙ is_reported _ _ _ (sym within) made) c.report.ensures

pub returns-in-None : goal.returns-in-None
returns-in-None c =
    let within = rw c.in-None.is at c.in_ok-compressed.ensures.within in
    (λ i. (c.refusal.ensures.status i, c.refusal.ensures.text i)) ∙ is_not_reported _ _ (sym within)
