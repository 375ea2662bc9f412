-- The counter is of the ledger of the blank.
use Rattle.vx_sparse.proofs.kernels.single_rows.row.Given as goal

abbrev pub ghosts-single_row : goal.ghosts-single_row
ghosts-single_row a = record { name = a.blank.name; parts = a.blank.parts }
