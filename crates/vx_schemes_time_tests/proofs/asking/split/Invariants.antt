-- The count is of the ledger of the blank.
use Rattle.vx_schemes_time_tests.proofs.asking.split.Given as goal

abbrev pub ghosts-counted_split : goal.ghosts-counted_split
ghosts-counted_split a = record { name = a.blank.name; parts = a.blank.parts }
