use Rattle.std.proofs.Common.{◌≡◌, ◌<◌, ◌∙◌, ◌++◌, ◌∷◌, [], Bool, ℕ, ap, arith, length, sym}
use Rattle.std.specs.Prelude.{◌&&◌, slice_index_or}
use Rattle.std.specs.declared.cmp.Ordering.TheVariants.{Equal, Less}
use Rattle.std.proofs.lemmas.List.{get_or_default, take_more_set}
use Rattle.std.proofs.lemmas.List.FromFn.{map-range_with_len_more}
use Rattle.vx_datetime.specs.Orders.{order_in}
use Rattle.vx_rules.specs.Comparisons.{holds}
use Rattle.vx_datetime.proofs.kernels.verdicts.write_both.Goals as goal

pub loop-row-preserved : goal.loop-row-preserved
loop-row-preserved c =
    let lows = c.args.lows.now in
    let highs = c.args.highs.now in
    let f : ℕ → Bool = λ i. holds c.args.floor (order_in lows i) && holds c.args.ceiling (order_in highs i) in
    let row = c.loop-row.row in
    let within : row < length c.loop-row.bits = omega (arith, c.loop-row.auto.bits) in
    let in_lows : row < length lows = omega (arith, c.loop-row.auto.bits, c.requires.room) in
    let in_highs : row < length highs = omega (arith, c.requires.highs) in
    let low : c.verdict.result ≡ holds c.args.floor (order_in lows row) = c.verdict.ensures ∙ c.verdicts_of-above.ensures (slice_index_or lows row Less) ∙ ap (holds c.args.floor) (get_or_default lows row Less Equal in_lows) in
    let high : c.verdict-in-loop-row.result ≡ holds c.args.ceiling (order_in highs row) = c.verdict-in-loop-row.ensures ∙ c.verdicts_of-beneath.ensures (slice_index_or highs row Less) ∙ ap (holds c.args.ceiling) (get_or_default highs row Less Equal in_highs) in
    take_more_set c.loop-row.bits row (c.verdict.result && c.verdict-in-loop-row.result) within ∙ (λ i. c.loop-row.invariant i ++ (low i && high i) ∷ []) ∙ sym (map-range_with_len_more f 0 row row (omega arith))
