use Rattle.std.proofs.Common.{◌≡◌, ◌∙◌, sym}
use Rattle.vx_model.specs.Column.{column_of}
use Rattle.vx_model.specs.Tree.{datetime_parts}
use Rattle.vx_model.proofs.DateTimePartsLemmas.{length-datetime_parts}
use Rattle.vx_rules.specs.Selections.{take_refusal, taken}
use Rattle.vx_datetime.proofs.StampTypes.{decided-err, decided-ok, or-decided}
use Rattle.vx_datetime.proofs.TakenParts.{same-places}
use Rattle.vx_datetime.proofs.kernels.taken.taken_parts.Goals as goal

pub taken_over-requires-clause-accepted : goal.taken_over-requires-clause-accepted
taken_over-requires-clause-accepted c =
    let days = column_of c.args.parts.now.days.now in
    let indices = column_of c.args.indices.now in
    (decided-ok (take_refusal days indices) (λ out. column_of out ≡ taken days indices) c.in-Ok.days c.in-Ok.ensures.answer).0

pub taken_over-requires-clause-days : goal.taken_over-requires-clause-days
taken_over-requires-clause-days c =
    let days = column_of c.args.parts.now.days.now in
    let indices = column_of c.args.indices.now in
    (decided-ok (take_refusal days indices) (λ out. column_of out ≡ taken days indices) c.in-Ok.days c.in-Ok.ensures.answer).1

pub returns-in-Ok-clause-answer : goal.returns-in-Ok-clause-answer
returns-in-Ok-clause-answer c =
    let p = c.args.parts.now in
    let own = column_of (datetime_parts p.kind.now p.nullability p.days.now p.seconds.now p.subseconds.now) in
    let days = column_of p.days.now in
    let indices = column_of c.args.indices.now in
    let accepted = (decided-ok (take_refusal days indices) (λ out. column_of out ≡ taken days indices) c.in-Ok.days c.in-Ok.ensures.answer).0 in
    or-decided (take_refusal own indices) _ c.taken_over.result
    (same-places own days indices (length-datetime_parts p.kind.now p.nullability p.days.now p.seconds.now p.subseconds.now) ∙ accepted) c.taken_over.ensures.answer

pub returns-in-Err-clause-answer : goal.returns-in-Err-clause-answer
returns-in-Err-clause-answer c =
    let p = c.args.parts.now in
    let own = column_of (datetime_parts p.kind.now p.nullability p.days.now p.seconds.now p.subseconds.now) in
    let days = column_of p.days.now in
    let indices = column_of c.args.indices.now in
    decided-err (take_refusal days indices) (take_refusal own indices) (λ out. column_of out ≡ taken days indices) _ c.in-Err.error
    (sym (same-places own days indices (length-datetime_parts p.kind.now p.nullability p.days.now p.seconds.now p.subseconds.now))) c.in-Err.ensures.answer
