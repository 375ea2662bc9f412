use Rattle.std.proofs.Common.{◌∙◌, sym, pos, subst, FitsSigned, rules, w32, ℤ}
use Rattle.std.specs.Int.{w128}
use Rattle.std.specs.Prelude.{IsSome, ◌≤ℤ◌}
use Rattle.std.proofs.lemmas.Int.{to_z-of_z}
use Rattle.vx_base.specs.Narrow.{narrow_of}
use Rattle.vx_schemes_time.proofs.ExtremeLemmas.{greatest-bound, narrow-both}
use Rattle.vx_schemes_time.proofs.temporal.narrowing.narrowest_type.Goals as goal

pub narrow_type-requires : goal.narrow_type-requires
narrow_type-requires c =
    let low = c.from.result in
    let high = c.from-2.result in
    let least : FitsSigned w32 low = search rules in
    let greatest : FitsSigned w32 high = search rules in
    let first : FitsSigned w128 low = search rules in
    let last : FitsSigned w128 high = search rules in
    let own : FitsSigned w32 c.extremes-least.result.1 = search rules in
    let is = c.from-2.ensures ∙ to_z-of_z w32 c.extremes-least.result.1 own ∙ c.extremes-least.ensures.greatest in
    let bound : pos 0 ≤ℤ high = subst (λ z. pos 0 ≤ℤ z) (sym is) (greatest-bound c.args.items.now) in
    subst (λ (p : ℤ × ℤ). IsSome (narrow_of p.0 p.1)) (λ i. (sym (to_z-of_z w128 low first) i, sym (to_z-of_z w128 high last) i)) (narrow-both low high least greatest bound)
