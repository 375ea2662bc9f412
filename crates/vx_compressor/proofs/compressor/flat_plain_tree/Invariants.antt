use Rattle.vx_compressor.proofs.compressor.flat_plain_tree.Given as goal

abbrev pub ghosts-plain_counted : goal.ghosts-plain_counted
ghosts-plain_counted g a = record { name = a.blank.name; parts = a.blank.parts }
