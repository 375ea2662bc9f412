use Rattle.std.proofs.Common.{◌≡◌, ◌<◌, ◌∙◌, ◌++◌, ◌∷◌, [], Bool, ℕ, ap, arith, length, sym}
use Rattle.std.specs.Prelude.{slice_index_or}
use Rattle.std.specs.declared.cmp.Ordering.TheVariants.{Equal, Less}
use Rattle.std.proofs.lemmas.List.{get_or_default, take_more_set}
use Rattle.std.proofs.lemmas.List.FromFn.{map-range_with_len_more}
use Rattle.vx_datetime.specs.Orders.{order_in}
use Rattle.vx_rules.specs.Comparisons.{holds}
use Rattle.vx_datetime.proofs.kernels.verdicts.write_holds.Goals as goal

pub loop-row-preserved : goal.loop-row-preserved
loop-row-preserved c =
    let orders = c.args.orders.now in
    let f : ℕ → Bool = λ i. holds c.args.operator (order_in orders i) in
    let row = c.loop-row.row in
    let within : row < length c.loop-row.bits = omega (arith, c.loop-row.auto.bits) in
    let there : row < length orders = omega (arith, c.loop-row.auto.bits, c.requires) in
    let here : c.verdict.result ≡ f row = c.verdict.ensures ∙ c.verdicts_of-verdicts.ensures (slice_index_or orders row Less) ∙ ap (holds c.args.operator) (get_or_default orders row Less Equal there) in
    take_more_set c.loop-row.bits row c.verdict.result within ∙ (λ i. c.loop-row.invariant i ++ here i ∷ []) ∙ sym (map-range_with_len_more f 0 row row (omega arith))
