-- The counter is of the ledger of the blank.
use Rattle.vx_array_tests.proofs.patches.place_of.Given as goal

abbrev pub ghosts-found : goal.ghosts-found
ghosts-found a = record { name = a.blank.name; parts = a.blank.parts }
