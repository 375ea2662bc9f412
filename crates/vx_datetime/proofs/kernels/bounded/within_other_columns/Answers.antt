use Rattle.std.proofs.Common.{◌∙◌, ap, subst}
use Rattle.std.proofs.lemmas.Result.{MatchResult-weaker}
use Rattle.vx_model.specs.WellFormed.{WellFormed}
use Rattle.vx_datetime.proofs.PairsColumn.{as-many, same-kind}
use Rattle.vx_datetime.proofs.RangesColumn.{ranges-between}
use Rattle.vx_datetime.proofs.kernels.bounded.within_other_columns.Goals as goal

pub within_parts-requires-clause-well : goal.within_parts-requires-clause-well
within_parts-requires-clause-well c = subst WellFormed c.requires.tree c.known.ensures

pub within_parts-requires-clause-low_well : goal.within_parts-requires-clause-low_well
within_parts-requires-clause-low_well c = subst WellFormed c.in-Some.ensures.0 c.in-Some.ensures.1

pub within_parts-requires-clause-high_well : goal.within_parts-requires-clause-high_well
within_parts-requires-clause-high_well c = subst WellFormed c.in-Some-lent_parts.ensures.0 c.in-Some-lent_parts.ensures.1

pub within_parts-requires-clause-low_unit : goal.within_parts-requires-clause-low_unit
within_parts-requires-clause-low_unit c =
    let p = c.args.parts.now in
    let f = c.in-Some.lows in
    ap (λ k. k.unit) (same-kind p.kind.now f.kind.now p.nullability f.nullability p.days.now p.seconds.now p.subseconds.now f.days.now f.seconds.now f.subseconds.now c.args.array.now c.args.lower.now c.requires.tree c.in-Some.ensures.0 c.requires.low_base)

pub within_parts-requires-clause-high_unit : goal.within_parts-requires-clause-high_unit
within_parts-requires-clause-high_unit c =
    let p = c.args.parts.now in
    let g = c.in-Some-lent_parts.highs in
    ap (λ k. k.unit) (same-kind p.kind.now g.kind.now p.nullability g.nullability p.days.now p.seconds.now p.subseconds.now g.days.now g.seconds.now g.subseconds.now c.args.array.now c.args.upper.now c.requires.tree c.in-Some-lent_parts.ensures.0 c.requires.high_base)

pub within_parts-requires-clause-low_length : goal.within_parts-requires-clause-low_length
within_parts-requires-clause-low_length c =
    let p = c.args.parts.now in
    let f = c.in-Some.lows in
    as-many p.kind.now f.kind.now p.nullability f.nullability p.days.now p.seconds.now p.subseconds.now f.days.now f.seconds.now f.subseconds.now c.args.array.now c.args.lower.now c.requires.tree c.in-Some.ensures.0 c.requires.low_length

pub within_parts-requires-clause-high_length : goal.within_parts-requires-clause-high_length
within_parts-requires-clause-high_length c =
    let p = c.args.parts.now in
    let g = c.in-Some-lent_parts.highs in
    as-many p.kind.now g.kind.now p.nullability g.nullability p.days.now p.seconds.now p.subseconds.now g.days.now g.seconds.now g.subseconds.now c.args.array.now c.args.upper.now c.requires.tree c.in-Some-lent_parts.ensures.0 c.requires.high_length

pub returns-clause-answer : goal.returns-clause-answer
returns-clause-answer c =
    let p = c.args.parts.now in
    let f = c.in-Some.lows in
    let g = c.in-Some-lent_parts.highs in
    MatchResult-weaker c.within_parts.result c.within_parts.ensures.answer
    (λ out is. is ∙ ranges-between p.kind.now f.kind.now g.kind.now p.nullability f.nullability g.nullability p.days.now p.seconds.now p.subseconds.now f.days.now f.seconds.now f.subseconds.now g.days.now g.seconds.now g.subseconds.now c.args.array.now c.args.lower.now c.args.upper.now c.requires.tree c.in-Some.ensures.0 c.in-Some-lent_parts.ensures.0 c.args.options) (λ e is. is)
