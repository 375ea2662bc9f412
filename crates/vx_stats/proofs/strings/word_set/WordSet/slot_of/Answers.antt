use Rattle.std.proofs.Common.{◌≤◌, arith}
use Rattle.std.proofs.lemmas.Nat.{and_le_r}
use Rattle.vx_stats.specs.Words.{home_of}
use Rattle.vx_stats.proofs.WordLemmas.{behind-all}
use Rattle.vx_stats.proofs.strings.word_set.WordSet.slot_of.Goals as goal

pub returns : goal.returns
returns c =
    let set = c.args.self.now in
    let home = home_of set.shift set.last in
    let below : home c.args.word ≤ set.last = and_le_r _ set.last in
    let above : home c.args.word ≤ c.loop-slot.slot = omega (arith, c.loop-slot.auto.slot, c.home-slot.ensures) in
    let end = c.loop-slot.auto.slot-end in
    behind-all home set.last set.slots.items c.args.word c.len.result c.loop-slot.slot below c.requires.homes (omega (arith, c.len.ensures))
    (omega (arith, end, c.home-slot.ensures, c.len.ensures, c.len-slot-end.ensures, below, c.requires.homes)) (omega (arith, c.loop-slot-test.false, c.len.ensures, c.len-slot-end.ensures)) above c.loop-slot.invariant
