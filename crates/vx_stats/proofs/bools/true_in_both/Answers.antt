use Rattle.std.proofs.Common.{arith}
use Rattle.vx_stats.proofs.TruthLemmas.{trues_left-next, trues_left-few}
use Rattle.vx_stats.proofs.bools.true_in_both.Goals as goal

pub overflow_add-count : goal.overflow_add-count
overflow_add-count c =
    let bits = c.args.bits.now in
    let mask = c.args.mask.now in
    let next = trues_left-next bits mask c.loop-row.row (omega arith) c.requires.same in
    record { fits = omega (arith, c.loop-row.invariant, next, trues_left-few bits mask c.requires.same, c.from-count.ensures, c.requires.few) }
