use Rattle.std.proofs.Common.{◌∙◌, ◌+◌, ◌++◌, map, ap, arith, vec_len}
use Rattle.vx_stats.proofs.DistinctLemmas.{kept-next}
use Rattle.vx_stats.proofs.TallyLemmas.{left}
use Rattle.vx_stats.proofs.integer.sorting.masked_items.Goals as goal
use Rattle.vx_stats.proofs.integer.sorting.masked_items.Goals.{then-bits-row+in_ok-push, else-bits-row}

pub loop-row-preserved : goal.loop-row-preserved
loop-row-preserved g c =
    let whole = g.T.Integer.whole in
    let rest = left whole c.args.items.now c.args.bits.now (c.loop-row.row + 1) in
    let next = kept-next whole c.args.items.now c.args.bits.now c.loop-row.row c.index-items-row.result c.loop-row.kept.items _ (omega arith) c.requires c.index-items-row.is c.loop-row.invariant.kept in
    elim c.if-bits-row.branch [
      | then-bits-row+in_ok-push w ↦
          record { few = omega (arith, w.in_ok-push.ensures.len, ap vec_len w.kept-is); kept = ap (λ v. map whole v.items ++ rest) w.kept-is ∙ ap (λ l. map whole l ++ rest) w.in_ok-push.ensures.items ∙ next.0 w.if-bits-row.true }
      | else-bits-row w ↦ record { few = omega (arith, ap vec_len w.kept-is); kept = ap (λ v. map whole v.items ++ rest) w.kept-is ∙ next.1 w.if-bits-row.false }
    ]
