use Rattle.vx_stats.specs.Words.{Holds}
use Rattle.vx_stats.proofs.KeptKeys.{words_to, AreFaithfulTo}
use Rattle.vx_stats.proofs.strings.counting.distinct_keys.Given as goal

abbrev pub invariant-loop-row : goal.invariant-loop-row
invariant-loop-row l =
    record {
      held : Holds (words_to l.rows l.valid l.row) l.words;
      faithful : AreFaithfulTo l.rows l.valid l.row;
    }
