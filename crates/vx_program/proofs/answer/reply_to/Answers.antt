use Rattle.std.proofs.Common.{sym, ◌∙◌, refl}
use Rattle.std.proofs.lemmas.Result.{IfOk-weaker}
use Rattle.vx_program.proofs.Replies.{is_none, reply_usage, reply_whole, reply_long, is_not_too_long}
use Rattle.vx_program.proofs.StatusCauses.{not_too_long}
use Rattle.vx_program.proofs.answer.reply_to.Goals as goal

pub returns-in_default-clause-answer : goal.returns-in_default-clause-answer
returns-in_default-clause-answer g c =
    let other = sym c.form_of.ensures ∙ is_none c.form_of.result c.in_default.not-Some in
    reply_usage _ _ _ (g.I.Source.left c.args.source.now) _ _ other refl (λ i. (c.refusal.ensures.status i, c.refusal.ensures.text i))

pub returns-in-TooLong-clause-answer : goal.returns-in-TooLong-clause-answer
returns-in-TooLong-clause-answer g c =
    let built = sym c.form_of.ensures ∙ c.in-Some.is in
    let came = rw c.in-TooLong.is at c.in_ok-read_all.ensures.bytes in
    let same = rw c.in-TooLong.is at c.in_ok-read_all.ensures.cause in
    reply_long _ _ _ _ _ _ _ came.0 built came.1 came.2 same (λ i. (c.refusal-in-TooLong.ensures.status i, c.refusal-in-TooLong.ensures.text i))

pub returns-in-Whole-clause-answer : goal.returns-in-Whole-clause-answer
returns-in-Whole-clause-answer g c =
    let built = sym c.form_of.ensures ∙ c.in-Some.is in
    let came = rw c.in-Whole.is at c.in_ok-read_all.ensures.bytes in
    let same = rw c.in-Whole.is at c.in_ok-read_all.ensures.cause in
    IfOk-weaker c.reply_to_bytes.result _ _ (λ r e. reply_whole _ _ _ _ _ _ _ _ built came.0 came.1 came.2 same e) c.reply_to_bytes.ensures

pub returns-in-Whole-clause-too_long : goal.returns-in-Whole-clause-too_long
returns-in-Whole-clause-too_long g c =
    let came = rw c.in-Whole.is at c.in_ok-read_all.ensures.bytes in
    IfOk-weaker c.reply_to_bytes.result _ _ (λ r e. is_not_too_long _ _ _ _ came.0 came.2 (not_too_long _ _ _ e)) c.reply_to_bytes.ensures
