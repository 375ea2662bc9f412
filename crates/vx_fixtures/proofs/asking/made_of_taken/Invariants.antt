-- The count is of the ledger of the blank.
use Rattle.vx_fixtures.proofs.asking.made_of_taken.Given as goal

abbrev pub ghosts-made : goal.ghosts-made
ghosts-made g a = record { name = a.blank.name; parts = a.blank.parts }
