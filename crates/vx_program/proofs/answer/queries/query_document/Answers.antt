use Rattle.std.proofs.Common.{rules, ◌≡◌, ◌∙◌, true, false}
use Rattle.std.proofs.lemmas.Result.{IfOk-weaker}
use Rattle.vx_program.specs.Answer.{counts_fit}
use Rattle.vx_program.proofs.QueryReplies.{is_queried, is_not_queried}
use Rattle.vx_program.proofs.answer.queries.query_document.Goals as goal

pub returns-then-not-counts_fit : goal.returns-then-not-counts_fit
returns-then-not-counts_fit c =
    let many : counts_fit c.args.document.column ≡ false = search rules in
    (λ i. (c.refusal.ensures.status i, c.refusal.ensures.text i)) ∙ is_not_queried _ _ many

pub returns : goal.returns
returns c =
    let few : counts_fit c.args.document.column ≡ true = search rules in
    IfOk-weaker c.lines.result _ _ (λ r e. e ∙ is_queried _ _ _ few c.in_ok-compressed.ensures.column) c.lines.ensures
