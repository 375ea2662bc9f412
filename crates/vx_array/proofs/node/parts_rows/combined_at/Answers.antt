use Rattle.std.proofs.Common.{◌∙◌, ap, rules}
use Rattle.std.specs.Int.{w64, w128}
use Rattle.std.specs.Prelude.{FitsSigned}
use Rattle.std.proofs.lemmas.Int.{to_z-of_z}
use Rattle.vx_time.specs.CanonicalParts.{is_canonical}
use Rattle.vx_time.specs.PartsOf.{parts, units_per_second}
use Rattle.vx_array.proofs.node.parts_rows.combined_at.Goals as goal

pub sum_of-requires : goal.sum_of-requires
sum_of-requires c =
    let z = c.in-Some.day in
    let fits_day : FitsSigned w128 z = search rules in
    let fits_divisor : FitsSigned w64 c.units_in_second-divisor.result = search rules in
    let day = to_z-of_z w128 z fits_day in
    let second = to_z-of_z w128 c.args.second c.ranges.second in
    let subsecond = to_z-of_z w128 c.args.subsecond c.ranges.subsecond in
    let divisor = to_z-of_z w64 c.units_in_second-divisor.result fits_divisor ∙ c.units_in_second-divisor.ensures ∙ ap units_per_second c.unit.ensures.unit in
    (λ i. is_canonical (divisor i) (parts (day i) (second i) (subsecond i))) ∙ c.requires z c.in-Some.is
