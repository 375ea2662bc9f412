-- The counter is of the ledger of the blank.
use Rattle.vx_sparse_tests.proofs.counted.compared.Given as goal

abbrev pub ghosts-comparison_by : goal.ghosts-comparison_by
ghosts-comparison_by a = record { name = a.blank.name; parts = a.blank.parts }
