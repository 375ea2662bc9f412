use Rattle.vx_stats.specs.Words.{home_of, IsPast}
use Rattle.vx_stats.proofs.strings.word_set.WordSet.slot_of.Given as goal

abbrev pub invariant-loop-slot : goal.invariant-loop-slot
invariant-loop-slot l = IsPast l.self.slots.items l.word (home_of l.self.shift l.self.last l.word) l.slot
