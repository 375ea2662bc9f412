use Rattle.std.proofs.Common.{◌≡◌, ◌∙◌, ◌<ℤ◌, Bool, ap, pos, refl, subst, sym, true}
use Rattle.std.specs.Int.{w64}
use Rattle.std.specs.Prelude.{◌&&◌, length}
use Rattle.std.proofs.lemmas.Int.{to_z-of_z}
use Rattle.vx_base.specs.PlainValue.{PlainValue, int, truth}
use Rattle.vx_datetime.specs.Moments.{floor_operator, moment_parts}
use Rattle.vx_model.specs.Column.{column_of}
use Rattle.vx_model.specs.Refusals.{kept, primitive_refusal}
use Rattle.vx_model.specs.Tree.{bool}
use Rattle.vx_rules.specs.Comparisons.{bound_operator, holds, within_bounds}
use Rattle.vx_time.specs.CanonicalParts.{is_canonical, parts_cmp}
use Rattle.vx_time.specs.declared.parts.TimestampParts.{TimestampParts}
use Rattle.vx_time.specs.PartsOf.{parts_of, sum_of, units_per_second}
use Rattle.vx_time.proofs.Held.{fits-I64}
use Rattle.vx_datetime.proofs.MomentOrders.{within-moments}
use Rattle.vx_datetime.proofs.PartReads.{found-admitted, found-column, seconds-long, subseconds-long}
use Rattle.vx_datetime.proofs.StampTypes.{divisor-is, divisor-positive}
use Rattle.vx_datetime.proofs.kernels.within.within_timestamps.Goals as goal

pub rows-rows-requires : goal.rows-rows-requires
rows-rows-requires c = c.in_ok-read.ensures.readable

pub moment_of-low-requires : goal.moment_of-low-requires
moment_of-low-requires c = subst (λ x. pos 0 <ℤ x) (sym (to_z-of_z w64 c.args.divisor c.ranges.divisor)) (divisor-positive c.args.parts.now.kind.now.unit c.args.divisor c.requires.divisor)

pub moment_of-high-requires : goal.moment_of-high-requires
moment_of-high-requires c = subst (λ x. pos 0 <ℤ x) (sym (to_z-of_z w64 c.args.divisor c.ranges.divisor)) (divisor-positive c.args.parts.now.kind.now.unit c.args.divisor c.requires.divisor)

pub lies_at_each-requires-clause-seconds : goal.lies_at_each-requires-clause-seconds
lies_at_each-requires-clause-seconds c =
    let p = c.args.parts.now in
    seconds-long p.kind.now p.nullability c.args.nullability p.days.now p.seconds.now p.subseconds.now c.requires.well c.rows-rows.result (c.rows-rows.ensures p.days.now p.seconds.now p.subseconds.now c.in_ok-read.ensures.decoded)

pub lies_at_each-requires-clause-subseconds : goal.lies_at_each-requires-clause-subseconds
lies_at_each-requires-clause-subseconds c =
    let p = c.args.parts.now in
    subseconds-long p.kind.now p.nullability c.args.nullability p.days.now p.seconds.now p.subseconds.now c.requires.well c.rows-rows.result (c.rows-rows.ensures p.days.now p.seconds.now p.subseconds.now c.in_ok-read.ensures.decoded)

pub bool_of-requires : goal.bool_of-requires
bool_of-requires c =
    let p = c.args.parts.now in
    let u = p.kind.now.unit in
    let a = c.args.bounds.0 in
    let b = c.args.bounds.1 in
    let low = moment_parts c.moment_of-low.result in
    let high = moment_parts c.moment_of-high.result in
    let is_low : low ≡ parts_of (units_per_second u) a =
    c.moment_of-low.ensures ∙ (λ i. parts_of (to_z-of_z w64 c.args.divisor c.ranges.divisor i) (to_z-of_z w64 a (fits-I64 a c.requires.low) i)) ∙ ap (λ d. parts_of d a) (divisor-is u c.args.divisor c.requires.divisor)
    in
    let is_high : high ≡ parts_of (units_per_second u) b =
    c.moment_of-high.ensures ∙ (λ i. parts_of (to_z-of_z w64 c.args.divisor c.ranges.divisor i) (to_z-of_z w64 b (fits-I64 b c.requires.high) i)) ∙ ap (λ d. parts_of d b) (divisor-is u c.args.divisor c.requires.divisor)
    in
    let found : TimestampParts → Bool = λ q. holds (floor_operator c.args.options.lower_strict) (parts_cmp q low) && holds (bound_operator c.args.options.upper_strict) (parts_cmp q high) in
    let g : PlainValue → PlainValue = λ v. within_bounds c.args.options v (int a) (int b) in
    let of_parts : (q : TimestampParts) → is_canonical (units_per_second u) q ≡ true → truth (found q) ≡ g (int (sum_of (units_per_second u) q)) =
    λ q h. within-moments c.args.options (units_per_second u) a b low high q c.requires.low c.requires.high is_low is_high h
    in
    ap (primitive_refusal (length c.in_ok-bits.bits) c.in_ok-valid.valid) c.or.ensures
    ∙ found-admitted p.kind.now p.nullability c.args.nullability p.days.now p.seconds.now p.subseconds.now c.requires.well c.rows-rows.result (c.rows-rows.ensures p.days.now p.seconds.now p.subseconds.now c.in_ok-read.ensures.decoded) found g refl of_parts c.in_ok-bits.bits c.in_ok-bits.ensures c.in_ok-valid.valid c.in_ok-valid.ensures

pub returns : goal.returns
returns c =
    let p = c.args.parts.now in
    let u = p.kind.now.unit in
    let a = c.args.bounds.0 in
    let b = c.args.bounds.1 in
    let low = moment_parts c.moment_of-low.result in
    let high = moment_parts c.moment_of-high.result in
    let is_low : low ≡ parts_of (units_per_second u) a =
    c.moment_of-low.ensures ∙ (λ i. parts_of (to_z-of_z w64 c.args.divisor c.ranges.divisor i) (to_z-of_z w64 a (fits-I64 a c.requires.low) i)) ∙ ap (λ d. parts_of d a) (divisor-is u c.args.divisor c.requires.divisor)
    in
    let is_high : high ≡ parts_of (units_per_second u) b =
    c.moment_of-high.ensures ∙ (λ i. parts_of (to_z-of_z w64 c.args.divisor c.ranges.divisor i) (to_z-of_z w64 b (fits-I64 b c.requires.high) i)) ∙ ap (λ d. parts_of d b) (divisor-is u c.args.divisor c.requires.divisor)
    in
    let found : TimestampParts → Bool = λ q. holds (floor_operator c.args.options.lower_strict) (parts_cmp q low) && holds (bound_operator c.args.options.upper_strict) (parts_cmp q high) in
    let g : PlainValue → PlainValue = λ v. within_bounds c.args.options v (int a) (int b) in
    let of_parts : (q : TimestampParts) → is_canonical (units_per_second u) q ≡ true → truth (found q) ≡ g (int (sum_of (units_per_second u) q)) =
    λ q h. within-moments c.args.options (units_per_second u) a b low high q c.requires.low c.requires.high is_low is_high h
    in
    ap column_of (c.bool_of.ensures ∙ ap (bool c.in_ok-bits.bits (kept c.in_ok-valid.valid)) c.or.ensures)
    ∙ found-column p.kind.now p.nullability c.args.nullability p.days.now p.seconds.now p.subseconds.now c.requires.well c.rows-rows.result (c.rows-rows.ensures p.days.now p.seconds.now p.subseconds.now c.in_ok-read.ensures.decoded) found g refl of_parts c.in_ok-bits.bits c.in_ok-bits.ensures c.in_ok-valid.valid c.in_ok-valid.ensures
