use Rattle.vx_codec.proofs.bits.+push_bits.Given as goal

abbrev pub decreases-push_bits : goal.decreases-push_bits
decreases-push_bits l = l.count
