use Rattle.std.proofs.Common.{◌≡◌, take}
use Rattle.vx_pieces.specs.Lengths.{sums_from}
use Rattle.vx_pieces.proofs.LengthLemmas.{end_from}
use Rattle.vx_pieces.proofs.lists.sums.Given as goal

abbrev pub invariant-loop-length : goal.invariant-loop-length
invariant-loop-length l = (l.end ≡ end_from 0 (take l.length-index l.lengths)) × (l.sums.items ≡ sums_from 0 (take l.length-index l.lengths))
