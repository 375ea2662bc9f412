-- The bit of the id is cleared, and is the only one that changes.
use Rattle.std.proofs.Common.{arith}
use Rattle.vx_base.specs.IdNumber.{id_number}
use Rattle.vx_base.proofs.IdSetLemmas.{cleared_bit, id_number-lt}
use Rattle.vx_base.proofs.id_set.IdSet.without.Goals as goal

pub returns : goal.returns
returns c = λ other.
    let place = id_number-lt other in
    rw (← c.id_number.ensures.number) (cleared_bit c.args.self.bits c.id_number.result (id_number other) (omega arith) (omega arith))
