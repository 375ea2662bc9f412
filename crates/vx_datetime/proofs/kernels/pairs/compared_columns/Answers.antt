use Rattle.std.proofs.Common.{◌∙◌, ap, subst}
use Rattle.std.proofs.lemmas.Result.{MatchResult-weaker}
use Rattle.vx_model.specs.WellFormed.{WellFormed}
use Rattle.vx_datetime.proofs.PairsColumn.{as-many, pairs-comparison, same-kind}
use Rattle.vx_datetime.proofs.kernels.pairs.compared_columns.Goals as goal

pub compared_with_parts-requires-clause-well : goal.compared_with_parts-requires-clause-well
compared_with_parts-requires-clause-well c = subst WellFormed c.requires.tree c.known.ensures

pub compared_with_parts-requires-clause-other_well : goal.compared_with_parts-requires-clause-other_well
compared_with_parts-requires-clause-other_well c = subst WellFormed c.in-Some.ensures.0 c.in-Some.ensures.1

pub compared_with_parts-requires-clause-units : goal.compared_with_parts-requires-clause-units
compared_with_parts-requires-clause-units c =
    let p = c.args.parts.now in
    let o = c.in-Some.others in
    ap (λ k. k.unit) (same-kind p.kind.now o.kind.now p.nullability o.nullability p.days.now p.seconds.now p.subseconds.now o.days.now o.seconds.now o.subseconds.now c.args.array.now c.args.other.now c.requires.tree c.in-Some.ensures.0 c.requires.base)

pub compared_with_parts-requires-clause-lengths : goal.compared_with_parts-requires-clause-lengths
compared_with_parts-requires-clause-lengths c =
    let p = c.args.parts.now in
    let o = c.in-Some.others in
    as-many p.kind.now o.kind.now p.nullability o.nullability p.days.now p.seconds.now p.subseconds.now o.days.now o.seconds.now o.subseconds.now c.args.array.now c.args.other.now c.requires.tree c.in-Some.ensures.0 c.requires.lengths

pub returns-in-Some-clause-answer : goal.returns-in-Some-clause-answer
returns-in-Some-clause-answer c =
    let p = c.args.parts.now in
    let o = c.in-Some.others in
    MatchResult-weaker c.compared_with_parts.result c.compared_with_parts.ensures.answer
    (λ out is. is ∙ pairs-comparison p.kind.now o.kind.now p.nullability o.nullability p.days.now p.seconds.now p.subseconds.now o.days.now o.seconds.now o.subseconds.now c.args.array.now c.args.other.now c.requires.tree c.in-Some.ensures.0 c.args.operator) (λ e is. is)
