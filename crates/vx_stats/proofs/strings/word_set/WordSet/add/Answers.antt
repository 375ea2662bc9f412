use Rattle.std.proofs.Common.{◌<◌, ◌∙◌, ◌∷◌, [], length, refl, ap, sym, arith, subst}
use Rattle.std.specs.Prelude.{not}
use Rattle.std.proofs.lemmas.List.{get_or_read, length-append, length-set}
use Rattle.vx_stats.specs.Words.{home_of, free, has, AreReached}
use Rattle.vx_stats.proofs.WordLemmas.{added-behind, added-at}
use Rattle.vx_stats.proofs.strings.word_set.WordSet.add.Goals as goal

pub returns-then-slot-len : goal.returns-then-slot-len
returns-then-slot-len c =
    let set = c.args.self.now in
    let home = home_of set.shift set.last in
    let slot = c.slot_of-slot.result in
    let all = added-behind home set.slots.items c.args.word slot c.requires.word c.requires.probed.reached c.slot_of-slot.ensures (omega (arith, c.len.ensures, c.if-slot-len.true)) in
    let items = sym c.in_ok-push.ensures.items in
    let more = ap length c.in_ok-push.ensures.items ∙ length-append set.slots.items (c.args.word ∷ []) in
    record {
      new = ap not (sym all.absent);
      members = λ other some. ap (λ l. has l other) c.in_ok-push.ensures.items ∙ all.members other some;
      probed = record { homes = omega (arith, more, c.requires.probed.homes); reached = subst (AreReached home) items all.reached };
      count = refl;
    }

pub returns : goal.returns
returns c =
    let set = c.args.self.now in
    let home = home_of set.shift set.last in
    let slot = c.slot_of-slot.result in
    let within : slot < length set.slots.items = omega (arith, c.len.ensures, c.if-slot-len.false) in
    let read = get_or_read set.slots.items slot c.index.result.now within c.index.ensures free in
    let all = added-at home set.slots.items c.args.word slot c.index.result.now c.requires.word c.requires.probed.reached c.slot_of-slot.ensures within read c.if-index-word.false in
    record {
      new = ap not (sym all.absent);
      members = all.members;
      probed = record { homes = omega (arith, length-set set.slots.items slot c.args.word, c.requires.probed.homes); reached = all.reached };
      count = refl;
    }
