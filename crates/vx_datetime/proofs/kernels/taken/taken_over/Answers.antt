use Rattle.std.proofs.Common.{◌≡◌, ◌∙◌, ap}
use Rattle.std.proofs.lemmas.Result.{MatchResult-weaker}
use Rattle.vx_base.specs.PlainType.{integer_of, nullability_of, or_nullable}
use Rattle.vx_model.specs.Column.{column_of}
use Rattle.vx_model.specs.Nodes.{encoding}
use Rattle.vx_model.specs.Refusals.{datetime_parts_refusal}
use Rattle.vx_model.specs.Tree.{datetime_parts}
use Rattle.vx_model.specs.TreeType.{tree_type}
use Rattle.vx_rules.specs.Selections.{take_refusal}
use Rattle.vx_datetime.proofs.PartReads.{seconds-integer, subseconds-integer}
use Rattle.vx_datetime.proofs.TakenParts.{by-places, parts_taken, same-places}
use Rattle.vx_datetime.proofs.kernels.taken.taken_over.Goals as goal

pub taken_or_zero-requires-clause-integers : goal.taken_or_zero-requires-clause-integers
taken_or_zero-requires-clause-integers c = let p = c.args.parts.now in seconds-integer p.kind.now p.nullability p.days.now p.seconds.now p.subseconds.now c.requires.well

pub taken_or_zero-requires-clause-accepted : goal.taken_or_zero-requires-clause-accepted
taken_or_zero-requires-clause-accepted c = let p = c.args.parts.now in ap (take_refusal (column_of p.seconds.now)) (ap column_of c.tree-plain.ensures ∙ c.in_ok-places.ensures.same) ∙ same-places (column_of p.seconds.now) (column_of p.days.now) (column_of c.args.indices.now) c.requires.well.3.seconds_length ∙ c.requires.accepted

pub taken_or_zero-requires-2-clause-integers : goal.taken_or_zero-requires-2-clause-integers
taken_or_zero-requires-2-clause-integers c = let p = c.args.parts.now in subseconds-integer p.kind.now p.nullability p.days.now p.seconds.now p.subseconds.now c.requires.well

pub taken_or_zero-requires-2-clause-accepted : goal.taken_or_zero-requires-2-clause-accepted
taken_or_zero-requires-2-clause-accepted c = let p = c.args.parts.now in ap (take_refusal (column_of p.subseconds.now)) (ap column_of c.tree-plain.ensures ∙ c.in_ok-places.ensures.same) ∙ same-places (column_of p.subseconds.now) (column_of p.days.now) (column_of c.args.indices.now) c.requires.well.3.subseconds_length ∙ c.requires.accepted

pub over_parts-requires : goal.over_parts-requires
over_parts-requires c =
    let p = c.args.parts.now in
    let idx = c.args.indices.now in
    let null = c.or-nullability.ensures ∙ ap (or_nullable p.nullability) (c.nullability.ensures ∙ ap nullability_of c.dtype.ensures) in
    let same : column_of c.tree-plain.result.now ≡ column_of idx = ap column_of c.tree-plain.ensures ∙ c.in_ok-places.ensures.same in
    let seconds = by-places p.seconds.now idx c.tree-plain.result.now c.in_ok-seconds.seconds (integer_of (tree_type p.seconds.now)) same c.in_ok-seconds.ensures.answer in
    let subseconds = by-places p.subseconds.now idx c.tree-plain.result.now c.in_ok-subseconds.subseconds (integer_of (tree_type p.subseconds.now)) same c.in_ok-subseconds.ensures.answer in
    let made = parts_taken p.kind.now p.nullability p.days.now p.seconds.now p.subseconds.now c.requires.well idx (integer_of (tree_type p.seconds.now)) (integer_of (tree_type p.subseconds.now)) c.args.days c.in_ok-seconds.seconds c.in_ok-subseconds.subseconds c.requires.days seconds subseconds in
    ap (λ m. datetime_parts_refusal p.kind.now m c.args.days c.in_ok-seconds.seconds c.in_ok-subseconds.subseconds) null ∙ made.accepted

pub returns-clause-answer : goal.returns-clause-answer
returns-clause-answer c =
    let p = c.args.parts.now in
    let idx = c.args.indices.now in
    let null = c.or-nullability.ensures ∙ ap (or_nullable p.nullability) (c.nullability.ensures ∙ ap nullability_of c.dtype.ensures) in
    let same : column_of c.tree-plain.result.now ≡ column_of idx = ap column_of c.tree-plain.ensures ∙ c.in_ok-places.ensures.same in
    let seconds = by-places p.seconds.now idx c.tree-plain.result.now c.in_ok-seconds.seconds (integer_of (tree_type p.seconds.now)) same c.in_ok-seconds.ensures.answer in
    let subseconds = by-places p.subseconds.now idx c.tree-plain.result.now c.in_ok-subseconds.subseconds (integer_of (tree_type p.subseconds.now)) same c.in_ok-subseconds.ensures.answer in
    let made = parts_taken p.kind.now p.nullability p.days.now p.seconds.now p.subseconds.now c.requires.well idx (integer_of (tree_type p.seconds.now)) (integer_of (tree_type p.subseconds.now)) c.args.days c.in_ok-seconds.seconds c.in_ok-subseconds.subseconds c.requires.days seconds subseconds in
    MatchResult-weaker c.over_parts.result c.over_parts.ensures
    (λ out is. (ap column_of (is ∙ ap (λ m. datetime_parts p.kind.now m c.args.days c.in_ok-seconds.seconds c.in_ok-subseconds.subseconds) null) ∙ made.column, ap encoding is)) (λ e is. is)
