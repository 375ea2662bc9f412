use Rattle.std.proofs.Common.{rules, ◌≡◌, ◌∙◌, ap, length, map, true}
use Rattle.std.specs.Int.{w64}
use Rattle.std.specs.Prelude.{replicate}
use Rattle.std.proofs.lemmas.Int.{to_z-of_z}
use Rattle.std.proofs.lemmas.Result.{MatchResult-weaker}
use Rattle.vx_base.specs.declared.ptype.PType.TheVariants.{I64}
use Rattle.vx_base.specs.Integers.{lies_in}
use Rattle.vx_base.specs.PlainType.{nullability_of, or_nullable}
use Rattle.vx_base.specs.PlainType as types
use Rattle.vx_base.specs.PlainValue.{int}
use Rattle.vx_model.specs.Column.{column}
use Rattle.vx_model.specs.Rows.{rows}
use Rattle.vx_model.specs.Tree.{datetime_parts}
use Rattle.vx_rules.specs.Comparisons.{within_bounds}
use Rattle.vx_time.proofs.Held.{fits-I64}
use Rattle.vx_datetime.proofs.SameColumns.{within-same}
use Rattle.vx_datetime.proofs.kernels.within.within_columns.Goals as goal

pub returns-clause-answer : goal.returns-clause-answer
returns-clause-answer c =
    let p = c.args.parts.now in
    let a = c.in-Some.low in
    let b = c.in-Some.high in
    let lower : rows c.args.lower.now ≡ replicate (length (rows c.args.lower.now)) (int a) = search rules in
    let upper : rows c.args.upper.now ≡ replicate (length (rows c.args.upper.now)) (int b) = search rules in
    let low_held : lies_in I64 a ≡ true = search rules in
    let high_held : lies_in I64 b ≡ true = search rules in
    let m = c.or-nullability.result in
    let vs = rows (datetime_parts p.kind.now p.nullability p.days.now p.seconds.now p.subseconds.now) in
    let low_back = to_z-of_z w64 a (fits-I64 a low_held) in
    let high_back = to_z-of_z w64 b (fits-I64 b high_held) in
    let null = c.or-nullability.ensures ∙ (λ i. or_nullable ((c.nullability.ensures ∙ ap nullability_of c.dtype.ensures) i) ((c.nullability-2.ensures ∙ ap nullability_of c.dtype-2.ensures) i)) in
    MatchResult-weaker c.within_timestamps.result c.within_timestamps.ensures
    (λ out is. is ∙ (λ i. column (types.boolean (or_nullable p.nullability m)) (map (λ v. within_bounds c.args.options v (int (low_back i)) (int (high_back i))) vs))
    ∙ within-same p.kind.now p.nullability p.days.now p.seconds.now p.subseconds.now c.args.array.now c.requires.tree c.args.options c.args.lower.now c.args.upper.now a b m c.requires.low_length c.requires.high_length lower upper null) (λ e is. is)
