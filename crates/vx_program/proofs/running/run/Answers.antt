use Rattle.std.proofs.Common.{◌≡◌, Err, codes, ap, ◌∙◌}
use Rattle.vx_program.specs.Answer.{refusal, read_fault}
use Rattle.vx_program.specs.declared.writing.Stop.TheVariants.{NoMemory}
use Rattle.vx_program.proofs.StatusCauses.{reply_written, reply_is_usage, reply_usage_causes, reply_bad_input, reply_refused, reply_answered, reply_bad_document, reply_too_many_rows, reply_done, reply_rose, reply_faultless, reply_complete}
use Rattle.vx_program.proofs.running.run.Goals as goal

pub returns-in-Ok-deliver-clause-write_fault : goal.returns-in-Ok-deliver-clause-write_fault
returns-in-Ok-deliver-clause-write_fault g c = λ e. absurd ((reply_written _ _ _ _ _ c.in-Ok.ensures.answer).1 e)

pub returns-in-Ok-deliver-clause-no_memory : goal.returns-in-Ok-deliver-clause-no_memory
returns-in-Ok-deliver-clause-no_memory g c = λ e. absurd ((reply_written _ _ _ _ _ c.in-Ok.ensures.answer).0 e)

pub returns-in-Ok-deliver-clause-usage : goal.returns-in-Ok-deliver-clause-usage
returns-in-Ok-deliver-clause-usage g c = λ written. reply_usage_causes _ _ _ _ _ c.in-Ok.ensures.answer

pub returns-in-Ok-deliver-clause-bad_input : goal.returns-in-Ok-deliver-clause-bad_input
returns-in-Ok-deliver-clause-bad_input g c = reply_bad_input _ _ _ _ _ c.in-Ok.ensures.answer

pub returns-in-Ok-deliver-clause-refused : goal.returns-in-Ok-deliver-clause-refused
returns-in-Ok-deliver-clause-refused g c = reply_refused _ _ _ _ _ c.in-Ok.ensures.answer

pub returns-in-Ok-deliver-clause-answered : goal.returns-in-Ok-deliver-clause-answered
returns-in-Ok-deliver-clause-answered g c = reply_answered _ _ _ _ _ c.in-Ok.ensures.answer

pub returns-in-Ok-deliver-clause-bad_document : goal.returns-in-Ok-deliver-clause-bad_document
returns-in-Ok-deliver-clause-bad_document g c = reply_bad_document _ _ _ _ _ c.in-Ok.ensures.answer

pub returns-in-Ok-deliver-clause-too_many_rows : goal.returns-in-Ok-deliver-clause-too_many_rows
returns-in-Ok-deliver-clause-too_many_rows g c = reply_too_many_rows _ _ _ _ _ c.in-Ok.ensures.answer

pub returns-in-Ok-deliver-clause-done : goal.returns-in-Ok-deliver-clause-done
returns-in-Ok-deliver-clause-done g c = reply_done _ _ _ _ _ c.in-Ok.ensures.answer

pub returns-in-Ok-deliver-clause-source_rose : goal.returns-in-Ok-deliver-clause-source_rose
returns-in-Ok-deliver-clause-source_rose g c = reply_rose _ _ _ _ _ c.in-Ok.ensures.answer

pub returns-in-Ok-deliver-clause-sink_rose : goal.returns-in-Ok-deliver-clause-sink_rose
returns-in-Ok-deliver-clause-sink_rose g c = λ e. absurd ((reply_written _ _ _ _ _ c.in-Ok.ensures.answer).1 e)

pub returns-in-Ok-deliver-clause-complete : goal.returns-in-Ok-deliver-clause-complete
returns-in-Ok-deliver-clause-complete g c = reply_complete _ _ _ _ _ _ c.in-Ok.ensures.answer

pub returns-in-Ok-deliver-clause-usage_surely : goal.returns-in-Ok-deliver-clause-usage_surely
returns-in-Ok-deliver-clause-usage_surely g c = λ usage room. (reply_written _ _ _ _ _ c.in-Ok.ensures.answer).0

pub returns-in-Err-NoMemory-clause-usage_surely : goal.returns-in-Err-NoMemory-clause-usage_surely
returns-in-Err-NoMemory-clause-usage_surely g c = λ usage room.
    let text : c.as_bytes.result.now ≡ (refusal 2 (codes "Usage")).1 = c.as_bytes.ensures ∙ ap (λ r. r.1) (reply_is_usage _ _ _ _ _ c.in-Ok.ensures.answer usage) in
    let is : c.deliver.result ≡ Err NoMemory = cc in
    absurd (c.deliver.ensures.sure (rw text room) is)

pub returns-in-Ok-deliver-clause-source_kept : goal.returns-in-Ok-deliver-clause-source_kept
returns-in-Ok-deliver-clause-source_kept g c = λ e. absurd ((reply_written _ _ _ _ _ c.in-Ok.ensures.answer).0 e)

pub returns-in-Err-NoMemory-clause-source_kept : goal.returns-in-Err-NoMemory-clause-source_kept
returns-in-Err-NoMemory-clause-source_kept g c = λ e room.
    reply_faultless _ _ _ _ _ c.in-Ok.ensures.answer (λ fault.
    let text : c.as_bytes.result.now ≡ read_fault.1 = c.as_bytes.ensures ∙ ap (λ r. r.1) fault in
    let is : c.deliver.result ≡ Err NoMemory = cc in
    absurd (c.deliver.ensures.sure (rw text room) is))
