use Rattle.vx_stats.proofs.strings.word_set.WordSet.grown.Goals as goal

pub loop-slot-init : goal.loop-slot-init
loop-slot-init c = record { probed = c.in_ok-set.ensures.probed; members = λ word some. c.in_ok-set.ensures.members word some }
