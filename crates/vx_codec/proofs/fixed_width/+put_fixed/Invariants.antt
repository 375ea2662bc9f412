use Rattle.vx_codec.proofs.fixed_width.+put_fixed.Given as goal

abbrev pub decreases-put_fixed : goal.decreases-put_fixed
decreases-put_fixed l = l.width
