use Rattle.std.proofs.Common.{◌<◌, ◌∙◌, length, sym, arith}
use Rattle.vx_stats.proofs.SeenLemmas.{slot-room}
use Rattle.vx_stats.proofs.integer.seen.Seen.see.Goals as goal

pub overflow_add-there : goal.overflow_add-there
overflow_add-there g c =
    let slots = c.args.self.now.slots.items in
    let slot = c.slot_of-slot.result in
    let within : slot < length slots = omega (arith, c.if-slot-len.false, c.len.ensures) in
    let room = slot-room g.T.Integer.whole slots slot c.args.item c.index-there.result.now within c.index-there.ensures (sym c.is_same.ensures ∙ c.if-is_same.true) in
    record { fits = omega (arith, room, c.requires) }
