use Rattle.std.proofs.Common.{◌≡◌, subst, sym}
use Rattle.vx_base.specs.Answers.{Decided}
use Rattle.vx_base.specs.declared.array_id.ArrayId.TheVariants as ids
use Rattle.vx_model.specs.Column.{column_of}
use Rattle.vx_model.specs.Nodes.{encoding}
use Rattle.vx_model.specs.Tree.{datetime_parts}
use Rattle.vx_rules.specs.Selections.{take_refusal, taken}
use Rattle.vx_datetime.proofs.StampTypes.{decided-first, decided-second}
use Rattle.vx_datetime.proofs.array.DateTimePartsArray.take.Goals as goal

pub returns-clause-answer : goal.returns-clause-answer
returns-clause-answer c =
    let p = c.parts.result in
    let own = column_of (datetime_parts p.kind.now p.nullability p.days.now p.seconds.now p.subseconds.now) in
    let indices = column_of c.args.indices.now in
    subst (λ t. Decided (take_refusal (column_of t) indices) (λ out. column_of out ≡ taken (column_of t) indices) c.taken_parts.result) (sym c.parts.ensures.tree)
    (decided-first (take_refusal own indices) (λ out. column_of out ≡ taken own indices) (λ out. encoding out ≡ ids.DateTimeParts) c.taken_parts.result c.taken_parts.ensures.answer)

pub returns-clause-root : goal.returns-clause-root
returns-clause-root c =
    let p = c.parts.result in
    let own = column_of (datetime_parts p.kind.now p.nullability p.days.now p.seconds.now p.subseconds.now) in
    let indices = column_of c.args.indices.now in
    decided-second (take_refusal own indices) (λ out. column_of out ≡ taken own indices) (λ out. encoding out ≡ ids.DateTimeParts) c.taken_parts.result c.taken_parts.ensures.answer
