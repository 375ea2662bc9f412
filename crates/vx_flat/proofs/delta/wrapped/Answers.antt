use Rattle.std.proofs.Common.{◌≡◌, ◌∙◌, ◌^◌, pos, arith, to_z, of_z}
use Rattle.std.specs.Int.{w128, int_rem_euclid}
use Rattle.std.specs.Prelude.{◌≤ℤ◌, ◌<ℤ◌}
use Rattle.std.proofs.lemmas.Int.{ints, to_z-of_z}
use Rattle.vx_base.specs.Integers.{bits_of, greatest}
use Rattle.vx_flat.proofs.WrapLemmas.{all_term, all-few, wrapped-low, wrapped-high}
use Rattle.vx_flat.proofs.delta.wrapped.Goals as goal

pub overflow_sub-result : goal.overflow_sub-result
overflow_sub-result c =
    let all = all_term c.args.ptype c.greatest.result c.least.result c.greatest.ensures c.least.ensures in
    let few = all-few c.args.ptype in
    let most = c.rem_euclid-low.ensures.upper_bound in
    let least = c.rem_euclid-low.ensures.lower_bound in
    omega (arith, ints, all, few, most, least)

pub returns-then-low-greatest : goal.returns-then-low-greatest
returns-then-low-greatest c =
    let all = all_term c.args.ptype c.greatest.result c.least.result c.greatest.ensures c.least.ensures in
    let few = all-few c.args.ptype in
    let most = c.rem_euclid-low.ensures.upper_bound in
    let least = c.rem_euclid-low.ensures.lower_bound in
    let low : to_z w128 (of_z w128 c.rem_euclid-low.result) ≡ c.rem_euclid-low.result = omega (arith, ints, all, few, most, least) in
    let whole = to_z-of_z w128 c.args.whole c.ranges.whole in
    let small : c.rem_euclid-low.result ≤ℤ greatest c.args.ptype = omega (arith, ints, low, c.if-low-greatest.true, c.greatest-2.ensures, few) in
    low ∙ wrapped-low c.args.ptype c.args.whole c.rem_euclid-low.result (c.rem_euclid-low.ensures.value ∙ (λ i. int_rem_euclid (whole i) (all i))) small

pub returns-else-low-greatest : goal.returns-else-low-greatest
returns-else-low-greatest c =
    let all = all_term c.args.ptype c.greatest.result c.least.result c.greatest.ensures c.least.ensures in
    let few = all-few c.args.ptype in
    let most = c.rem_euclid-low.ensures.upper_bound in
    let least = c.rem_euclid-low.ensures.lower_bound in
    let low : to_z w128 (of_z w128 c.rem_euclid-low.result) ≡ c.rem_euclid-low.result = omega (arith, ints, all, few, most, least) in
    let below : c.rem_euclid-low.result <ℤ pos (2 ^ bits_of c.args.ptype) = omega (arith, ints, all, few, most, least) in
    let whole = to_z-of_z w128 c.args.whole c.ranges.whole in
    let large : greatest c.args.ptype <ℤ c.rem_euclid-low.result = omega (arith, ints, low, c.if-low-greatest.false, c.greatest-2.ensures, few) in
    let value = wrapped-high c.args.ptype c.args.whole c.rem_euclid-low.result (c.rem_euclid-low.ensures.value ∙ (λ i. int_rem_euclid (whole i) (all i))) below large in
    omega (arith, ints, all, few, low, value, below, least)
