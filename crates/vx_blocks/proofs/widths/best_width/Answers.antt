use Rattle.std.proofs.Common.{◌≡◌, ◌≤◌, ◌+◌, ◌-◌, ◌*◌, ◌^◌, arith, get_or}
use Rattle.std.proofs.lemmas.Nat.{mul-le}
use Rattle.vx_base.specs.Integers.{bits_of}
use Rattle.vx_blocks.proofs.widths.best_width.Goals as goal

pub overflow_mul-cost : goal.overflow_mul-cost
overflow_mul-cost c =
    let h = get_or c.args.histogram.now c.loop-width.width 0 in
    let m = mul-le (c.loop-width.wider - h) (c.byte_width-each.result + 4) (2 ^ 32) 12 (omega arith) (omega (arith, c.byte_width-each.ensures.most)) in
    record { fits = omega (arith, m) }

pub overflow_add-cost : goal.overflow_add-cost
overflow_add-cost c =
    let h = get_or c.args.histogram.now c.loop-width.width 0 in
    let m = mul-le (c.loop-width.wider - h) (c.byte_width-each.result + 4) (2 ^ 32) 12 (omega arith) (omega (arith, c.byte_width-each.ensures.most)) in
    let n = mul-le c.loop-width.width c.total-rows.result 64 (2 ^ 32) (omega arith) (omega arith) in
    let q : c.div_ceil.result ≤ c.loop-width.width * c.total-rows.result + 1 = omega (arith, c.div_ceil.ensures) in
    record { fits = omega (arith, m, n, q) }

pub returns : goal.returns
returns c =
    let e : c.loop-width.width - 1 ≡ bits_of c.args.ptype = omega (arith, c.bit_width-greatest.ensures.width) in
    rw e at c.loop-width.invariant.best
