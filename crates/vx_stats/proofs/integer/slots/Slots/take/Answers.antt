use Rattle.std.proofs.Common.{◌<◌, true, length, refl, ap, arith}
use mir.Val.{bool_byte}
use Rattle.std.specs.Prelude.{not, set, ◌||◌, ◌&&◌}
use Rattle.std.proofs.lemmas.List.{get_or_read}
use Rattle.vx_stats.proofs.SlotLemmas.{took_if, no-slot}
use Rattle.vx_stats.proofs.integer.slots.Slots.take.Goals as goal

pub returns-then-slot-len : goal.returns-then-slot-len
returns-then-slot-len g c =
    let slots = c.args.self.now in
    let bit = c.args.bit in
    let slot = c.slot_of-slot.result in
    let within : slot < length slots.taken.items = omega (arith, c.if-slot-len.true, c.len.ensures) in
    let read = get_or_read slots.taken.items slot c.index-taken.result.now within c.index-taken.ensures true in
    let taken = ap (λ b. set slots.taken.items slot (b || bit)) read in
    let free = ap (λ b. bool_byte (bit && not b)) read in
    λ zs before. took_if g.T.Integer.kind bit zs (g.T.Integer.whole c.args.item) slots _ slot c.slot_of-slot.ensures within refl taken (omega (arith, c.saturating_add-self.ensures, c.from.ensures, free)) before

pub returns-else-slot-len : goal.returns-else-slot-len
returns-else-slot-len g c =
    λ zs before. no-slot g.T.Integer.kind c.args.bit zs (g.T.Integer.whole c.args.item) c.args.self.now (omega (arith, c.if-slot-len.false, c.len.ensures, c.slot_of-slot.ensures)) before
