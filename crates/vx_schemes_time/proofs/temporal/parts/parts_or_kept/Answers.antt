use Rattle.std.proofs.Common.{◌≡◌, Err, rules, subst}
use Rattle.vx_base.specs.Answers.{Answers}
use Rattle.vx_base.specs.declared.error.VortexError.TheVariants.{DaysOutOfRange}
use Rattle.vx_model.specs.Column.{column_of}
use Rattle.vx_temporal.specs.Settled.{Settled}
use Rattle.vx_temporal.specs.Split.{split_refusal, type_refusal}
use Rattle.vx_temporal.specs.SplitOf.{IsSplitOf}
use Rattle.vx_schemes_time.proofs.SplitParts.{kept-made, split-out, stored-parts, three-made}
use Rattle.vx_schemes_time.proofs.temporal.parts.parts_or_kept.Goals as goal

pub narrowed_parts-requires-clause-days : goal.narrowed_parts-requires-clause-days
narrowed_parts-requires-clause-days c = (stored-parts c.args.array.now c.in-Ok.parts c.requires c.known.ensures c.in-Ok.ensures.answer).1.days

pub narrowed_parts-requires-clause-seconds : goal.narrowed_parts-requires-clause-seconds
narrowed_parts-requires-clause-seconds c = (stored-parts c.args.array.now c.in-Ok.parts c.requires c.known.ensures c.in-Ok.ensures.answer).1.seconds

pub narrowed_parts-requires-clause-subseconds : goal.narrowed_parts-requires-clause-subseconds
narrowed_parts-requires-clause-subseconds c = (stored-parts c.args.array.now c.in-Ok.parts c.requires c.known.ensures c.in-Ok.ensures.answer).1.subseconds

pub returns-in-Ok-clause-answer : goal.returns-in-Ok-clause-answer
returns-in-Ok-clause-answer c =
    let made = stored-parts c.args.array.now c.in-Ok.parts c.requires c.known.ensures c.in-Ok.ensures.answer in
    subst (Answers c.narrowed_parts.result) (three-made (column_of c.args.array.now) c.in-Ok.parts made.0 made.1) c.narrowed_parts.ensures

pub returns-in-Err-clause-answer : goal.returns-in-Err-clause-answer
returns-in-Err-clause-answer c =
    let of = column_of c.args.array.now in
    let out : c.in-Err.error ≡ DaysOutOfRange = search rules in
    kept-made of (split-out of c.requires (subst (λ e. Settled (type_refusal of.dtype) (split_refusal of) (IsSplitOf of) (Err e)) out c.in-Err.ensures.answer))
