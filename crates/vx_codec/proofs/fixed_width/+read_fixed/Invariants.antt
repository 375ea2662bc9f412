use Rattle.vx_codec.proofs.fixed_width.+read_fixed.Given as goal

abbrev pub decreases-read_fixed : goal.decreases-read_fixed
decreases-read_fixed l = l.width
