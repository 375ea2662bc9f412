-- The count is of the ledger of the blank.
use Rattle.vx_scheme_tests.proofs.no_scheme.keeps.Given as goal

abbrev pub ghosts-keeps_three : goal.ghosts-keeps_three
ghosts-keeps_three a = record { name = a.blank.name; parts = a.blank.parts }
