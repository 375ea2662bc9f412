use Rattle.vx_file.proofs.writing.field_lengths.+groups_length.Given as goal

abbrev pub decreases-groups_length : goal.decreases-groups_length
decreases-groups_length l = l.left
