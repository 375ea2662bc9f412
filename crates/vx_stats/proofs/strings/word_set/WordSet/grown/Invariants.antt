use Rattle.std.proofs.Common.{◌≡◌, ◌≢◌, ℕ, take}
use Rattle.vx_stats.specs.Words.{free, has, IsProbed}
use Rattle.vx_stats.proofs.strings.word_set.WordSet.grown.Given as goal

abbrev pub invariant-loop-slot : goal.invariant-loop-slot
invariant-loop-slot l =
    record {
      probed : IsProbed l.set;
      members : (word : ℕ) → word ≢ free → has l.set.slots.items word ≡ has (take l.slot l.self.slots.items) word;
    }
