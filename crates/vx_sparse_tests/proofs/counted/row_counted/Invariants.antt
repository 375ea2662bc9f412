-- The counter is of the ledger of the blank.
use Rattle.vx_sparse_tests.proofs.counted.row_counted.Given as goal

abbrev pub ghosts-row_by : goal.ghosts-row_by
ghosts-row_by a = record { name = a.blank.name; parts = a.blank.parts }
