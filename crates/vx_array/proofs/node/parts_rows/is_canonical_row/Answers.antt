use Rattle.std.proofs.Common.{◌≡◌, ◌∙◌, sym, ap, rules}
use Rattle.std.specs.Int.{w64, w128}
use Rattle.std.specs.Prelude.{◌||◌, FitsSigned}
use Rattle.std.proofs.lemmas.Int.{to_z-of_z}
use Rattle.vx_base.specs.PlainValue.{int, is_null, whole_or_zero}
use Rattle.vx_model.specs.Rows.{rows, row_at}
use Rattle.vx_time.specs.CanonicalParts.{is_canonical}
use Rattle.vx_time.specs.PartsOf.{parts}
use Rattle.vx_array.proofs.node.parts_rows.is_canonical_row.Goals as goal

pub returns-in-Some : goal.returns-in-Some
returns-in-Some c =
    let row = c.args.row in
    let here : row_at (rows c.args.days.now) row ≡ int c.in-Some.day = sym c.in-Some.ensures in
    let fits_day : FitsSigned w128 c.in-Some.day = search rules in
    let fits_second : FitsSigned w128 c.whole_at-second.result = search rules in
    let fits_subsecond : FitsSigned w128 c.whole_at-subsecond.result = search rules in
    let day = to_z-of_z w128 c.in-Some.day fits_day in
    let second = to_z-of_z w128 c.whole_at-second.result fits_second ∙ c.whole_at-second.ensures.whole in
    let subsecond = to_z-of_z w128 c.whole_at-subsecond.result fits_subsecond ∙ c.whole_at-subsecond.ensures.whole in
    let divisor = to_z-of_z w64 c.args.divisor c.ranges.divisor in
    c.is_canonical.ensures ∙ (λ i. is_canonical (divisor i) (parts (day i) (second i) (subsecond i)))
    ∙ sym (ap (λ v. is_null v || is_canonical c.args.divisor (parts (whole_or_zero v) (whole_or_zero (row_at (rows c.args.seconds.now) row)) (whole_or_zero (row_at (rows c.args.subseconds.now) row)))) here)
