-- The counter is of the ledger of the blank.
use Rattle.vx_low_tests.proofs.bounds.counters_take_no_bytes.Given as goal

abbrev pub ghosts-two_ticks : goal.ghosts-two_ticks
ghosts-two_ticks g a = record { name = a.blank.name; parts = a.blank.parts }
