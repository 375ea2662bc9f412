use Rattle.std.proofs.Common.{◌≡◌, map}
use Rattle.std.specs.List.{range_with_len}
use Rattle.vx_model.specs.Decoded.{picks_valid}
use Rattle.vx_values.proofs.ints.dictionary.picks_valid.Given as goal

abbrev pub invariant-loop-row : goal.invariant-loop-row
invariant-loop-row g l = l.picked.items ≡ map (picks_valid g.C.Integer.kind l.bits l.valid (map g.C.Integer.whole l.codes)) (range_with_len 0 l.row)
