use Rattle.std.proofs.Common.{◌≡◌, ◌∙◌, ◌<ℤ◌, Bool, ap, pos, refl, subst, sym, true}
use Rattle.std.specs.Int.{w64}
use Rattle.std.proofs.lemmas.Int.{to_z-of_z}
use Rattle.vx_base.specs.PlainValue.{PlainValue, int, truth}
use Rattle.vx_datetime.specs.Moments.{moment_parts}
use Rattle.vx_model.specs.Column.{column_of}
use Rattle.vx_model.specs.Refusals.{kept, primitive_refusal}
use Rattle.vx_model.specs.Tree.{bool}
use Rattle.std.specs.Prelude.{length}
use Rattle.vx_rules.specs.Comparisons.{compared, holds}
use Rattle.vx_time.specs.CanonicalParts.{is_canonical, parts_cmp}
use Rattle.vx_time.specs.declared.parts.TimestampParts.{TimestampParts}
use Rattle.vx_time.specs.PartsOf.{parts_of, sum_of, units_per_second}
use Rattle.vx_datetime.proofs.MomentOrders.{compared-moment}
use Rattle.vx_datetime.proofs.PartReads.{found-admitted, found-column, seconds-long, subseconds-long}
use Rattle.vx_datetime.proofs.StampTypes.{divisor-is, divisor-positive}
use Rattle.vx_datetime.proofs.kernels.compared.compared_with_timestamp.Goals as goal

pub rows-rows-requires : goal.rows-rows-requires
rows-rows-requires c = c.in_ok-read.ensures.readable

pub moment_of-moment-requires : goal.moment_of-moment-requires
moment_of-moment-requires c = subst (λ x. pos 0 <ℤ x) (sym (to_z-of_z w64 c.args.divisor c.ranges.divisor)) (divisor-positive c.args.parts.now.kind.now.unit c.args.divisor c.requires.divisor)

pub holds_at_each-requires-clause-seconds : goal.holds_at_each-requires-clause-seconds
holds_at_each-requires-clause-seconds c =
    let p = c.args.parts.now in
    seconds-long p.kind.now p.nullability c.args.nullability p.days.now p.seconds.now p.subseconds.now c.requires.well c.rows-rows.result (c.rows-rows.ensures p.days.now p.seconds.now p.subseconds.now c.in_ok-read.ensures.decoded)

pub holds_at_each-requires-clause-subseconds : goal.holds_at_each-requires-clause-subseconds
holds_at_each-requires-clause-subseconds c =
    let p = c.args.parts.now in
    subseconds-long p.kind.now p.nullability c.args.nullability p.days.now p.seconds.now p.subseconds.now c.requires.well c.rows-rows.result (c.rows-rows.ensures p.days.now p.seconds.now p.subseconds.now c.in_ok-read.ensures.decoded)

pub bool_of-requires : goal.bool_of-requires
bool_of-requires c =
    let p = c.args.parts.now in
    let u = p.kind.now.unit in
    let t = c.args.timestamp in
    let moment = moment_parts c.moment_of-moment.result in
    let is_moment : moment ≡ parts_of (units_per_second u) t =
    c.moment_of-moment.ensures ∙ (λ i. parts_of (to_z-of_z w64 c.args.divisor c.ranges.divisor i) (to_z-of_z w64 t c.ranges.timestamp i)) ∙ ap (λ d. parts_of d t) (divisor-is u c.args.divisor c.requires.divisor)
    in
    let found : TimestampParts → Bool = λ q. holds c.args.operator (parts_cmp q moment) in
    let g : PlainValue → PlainValue = λ v. compared c.args.operator v (int t) in
    let of_parts : (q : TimestampParts) → is_canonical (units_per_second u) q ≡ true → truth (found q) ≡ g (int (sum_of (units_per_second u) q)) =
    λ q h. compared-moment c.args.operator (units_per_second u) t moment q c.requires.held is_moment h
    in
    ap (primitive_refusal (length c.in_ok-bits.bits) c.in_ok-valid.valid) c.or.ensures
    ∙ found-admitted p.kind.now p.nullability c.args.nullability p.days.now p.seconds.now p.subseconds.now c.requires.well c.rows-rows.result (c.rows-rows.ensures p.days.now p.seconds.now p.subseconds.now c.in_ok-read.ensures.decoded) found g refl of_parts c.in_ok-bits.bits c.in_ok-bits.ensures c.in_ok-valid.valid c.in_ok-valid.ensures

pub returns : goal.returns
returns c =
    let p = c.args.parts.now in
    let u = p.kind.now.unit in
    let t = c.args.timestamp in
    let moment = moment_parts c.moment_of-moment.result in
    let is_moment : moment ≡ parts_of (units_per_second u) t =
    c.moment_of-moment.ensures ∙ (λ i. parts_of (to_z-of_z w64 c.args.divisor c.ranges.divisor i) (to_z-of_z w64 t c.ranges.timestamp i)) ∙ ap (λ d. parts_of d t) (divisor-is u c.args.divisor c.requires.divisor)
    in
    let found : TimestampParts → Bool = λ q. holds c.args.operator (parts_cmp q moment) in
    let g : PlainValue → PlainValue = λ v. compared c.args.operator v (int t) in
    let of_parts : (q : TimestampParts) → is_canonical (units_per_second u) q ≡ true → truth (found q) ≡ g (int (sum_of (units_per_second u) q)) =
    λ q h. compared-moment c.args.operator (units_per_second u) t moment q c.requires.held is_moment h
    in
    ap column_of (c.bool_of.ensures ∙ ap (bool c.in_ok-bits.bits (kept c.in_ok-valid.valid)) c.or.ensures)
    ∙ found-column p.kind.now p.nullability c.args.nullability p.days.now p.seconds.now p.subseconds.now c.requires.well c.rows-rows.result (c.rows-rows.ensures p.days.now p.seconds.now p.subseconds.now c.in_ok-read.ensures.decoded) found g refl of_parts c.in_ok-bits.bits c.in_ok-bits.ensures c.in_ok-valid.valid c.in_ok-valid.ensures
