use Rattle.vx_document.proofs.writing.deltas.+has_delta.Given as goal

abbrev pub decreases-has_delta : goal.decreases-has_delta
decreases-has_delta l = l.limit
