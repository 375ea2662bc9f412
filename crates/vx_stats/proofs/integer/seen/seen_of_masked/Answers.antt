use Rattle.std.proofs.Common.{◌≡◌, ◌+◌, [], ◌∷◌, map, drop, cond, ap, sym, ◌∙◌, arith}
use Rattle.std.proofs.lemmas.List.{drop_all}
use Rattle.vx_base.specs.PlainValue.{int}
use Rattle.vx_model.specs.Rows.{masked_rows}
use Rattle.vx_stats.specs.Distinct.{times}
use Rattle.vx_stats.specs.Seen.{times_seen, empties}
use Rattle.vx_stats.specs.Stats.{valid_wholes}
use Rattle.vx_stats.proofs.SeenLemmas.{seen-more, few-seen, times-left}
use Rattle.vx_stats.proofs.TallyLemmas.{left, left-next}
use Rattle.vx_stats.proofs.integer.seen.seen_of_masked.Goals.{then-bits-row+in_ok-see, else-bits-row}
use Rattle.vx_stats.proofs.integer.seen.seen_of_masked.Goals as goal

pub see-requires : goal.see-requires
see-requires g c =
    let whole = g.T.Integer.whole in
    let items = c.args.items.now in
    let bits = c.args.bits.now in
    let x = c.index-items-row.result in
    let next = left-next whole items bits c.loop-row.row x (omega arith) c.requires.bits c.index-items-row.is in
    let rest = left whole items bits (c.loop-row.row + 1) in
    let here = next ∙ ap (λ b. cond b (whole x ∷ rest) rest) c.if-bits-row.true in
    omega (arith, few-seen whole items bits rest (whole x) _ c.requires.bits (ap (λ l. times_seen whole c.loop-row.seen (whole x) + times l (whole x)) (sym here) ∙ c.loop-row.invariant.totals (whole x)), c.requires.few)

pub loop-row-preserved : goal.loop-row-preserved
loop-row-preserved g c =
    let whole = g.T.Integer.whole in
    let items = c.args.items.now in
    let bits = c.args.bits.now in
    let x = c.index-items-row.result in
    let all = left whole items bits 0 in
    let rest = left whole items bits (c.loop-row.row + 1) in
    let next = left-next whole items bits c.loop-row.row x (omega arith) c.requires.bits c.index-items-row.is in
    elim c.if-bits-row.branch [
      | then-bits-row+in_ok-see w ↦
          let here = next ∙ ap (λ b. cond b (whole x ∷ rest) rest) w.if-bits-row.true in
          record {
            totals = λ z. ap (λ s. times_seen whole s z + times rest z) w.seen-is ∙ ap (λ n. n + times rest z) (w.in_ok-see.ensures.totals z)
                ∙ seen-more whole all rest (whole x) z (times_seen whole c.loop-row.seen z) (ap (λ l. times_seen whole c.loop-row.seen z + times l z) (sym here) ∙ c.loop-row.invariant.totals z);
            some = ap (λ s. empties s.evicted.items) w.seen-is ∙ w.in_ok-see.ensures.some ∙ c.loop-row.invariant.some;
          }
      | else-bits-row w ↦
          let here = next ∙ ap (λ b. cond b (whole x ∷ rest) rest) w.if-bits-row.false in
          record {
            totals = λ z. ap (λ s. times_seen whole s z + times rest z) w.seen-is ∙ ap (λ l. times_seen whole c.loop-row.seen z + times l z) (sym here) ∙ c.loop-row.invariant.totals z;
            some = ap (λ s. empties s.evicted.items) w.seen-is ∙ c.loop-row.invariant.some;
          }
    ]

pub returns : goal.returns
returns g c =
    let rest = map int (map g.T.Integer.whole (drop c.loop-row.row c.args.items.now)) in
    let all = left g.T.Integer.whole c.args.items.now c.args.bits.now 0 in
    let here = left g.T.Integer.whole c.args.items.now c.args.bits.now c.loop-row.row in
    let none : here ≡ [] = ap (λ bits. valid_wholes (masked_rows bits rest)) (drop_all c.loop-row.row c.args.bits.now (omega arith)) in
    record { totals = λ z. times-left g.T.Integer.whole all here z (times_seen g.T.Integer.whole c.loop-row.seen z) none (c.loop-row.invariant.totals z); some = c.loop-row.invariant.some }
