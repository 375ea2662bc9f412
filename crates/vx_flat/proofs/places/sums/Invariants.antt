use Rattle.std.proofs.Common.{◌≡◌, map, pos}
use Rattle.vx_model.specs.Rows.{below}
use Rattle.vx_flat.specs.RunPlaces.{block_place}
use Rattle.vx_flat.proofs.places.sums.Given as goal

abbrev pub invariant-loop-row : goal.invariant-loop-row
invariant-loop-row g l = map pos l.places.items ≡ below (block_place l.fn.offsets (map g.T.Integer.whole l.fn.indices)) l.row
