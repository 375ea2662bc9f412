-- The new bit lies below 2 ^ 23, and is the only one that changes.
use Rattle.std.proofs.Common.{arith, ◌<◌, ◌*◌, ◌^◌, ◌%◌}
use Rattle.std.proofs.lemmas.Nat.{or_lt}
use Rattle.std.proofs.Math.Pow.{pow-lt}
use Rattle.vx_base.specs.IdNumber.{id_number}
use Rattle.vx_base.proofs.IdSetLemmas.{set_bit}
use Rattle.vx_base.proofs.id_set.IdSet.with.Goals as goal

pub invariant_of-result : goal.invariant_of-result
invariant_of-result c =
    let low : 2 ^ c.id_number.result < 2 ^ 23 = pow-lt c.id_number.ensures.within in
    record { within = or_lt 23 c.args.self.bits (1 * 2 ^ c.id_number.result % 4294967296) c.args.self.within (omega arith) }

pub returns : goal.returns
returns c = λ other. rw (← c.id_number.ensures.number) (set_bit c.args.self.bits c.id_number.result (id_number other) (omega arith))
