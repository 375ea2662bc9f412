use Rattle.std.proofs.Common.{◌∙◌, ℤ, Bool, arith, map, sym}
use Rattle.std.specs.Int.{w128}
use Rattle.std.specs.Prelude.{◌&&◌}
use Rattle.std.specs.Ordering.{int_cmp}
use Rattle.std.proofs.lemmas.Int.{to_z-of_z}
use Rattle.std.proofs.lemmas.List.{take_all}
use Rattle.vx_rules.specs.declared.options.CompareOperator.{CompareOperator}
use Rattle.vx_rules.specs.Comparisons.{holds}
use Rattle.vx_rows.proofs.kernels.within.write_wide.Goals as goal

abbrev within : CompareOperator → CompareOperator → ℤ → ℤ → ℤ → Bool
within lower upper low high = λ z. holds lower (int_cmp low z) && holds upper (int_cmp z high)

pub returns : goal.returns
returns g c =
    let a = to_z-of_z w128 c.args.low c.ranges.low in
    let b = to_z-of_z w128 c.args.high c.ranges.high in
    sym (take_all c.loop-row.row c.loop-row.bits (omega (arith, c.loop-row.auto.bits, c.requires, c.loop-row-test.false))) ∙ c.loop-row.invariant
    ∙ (λ i. map (within c.args.lower c.args.upper (a i) (b i)) (map g.T.Integer.whole (take_all c.loop-row.row c.args.items.now c.loop-row-test.false i)))
