use Rattle.vx_compressor.proofs.timestamps.stamps_tree.Given as goal

abbrev pub ghosts-beside_counted : goal.ghosts-beside_counted
ghosts-beside_counted g a = record { name = a.blank.name; parts = a.blank.parts }
