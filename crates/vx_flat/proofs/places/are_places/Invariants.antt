use Rattle.std.proofs.Common.{◌≡◌, map, true}
use Rattle.std.specs.List.{list_all}
use Rattle.vx_base.specs.PlainValue.{int}
use Rattle.vx_model.specs.Rows.{below}
use Rattle.vx_model.specs.WellFormed.{is_place}
use Rattle.vx_flat.specs.RunPlaces.{block_place}
use Rattle.vx_flat.proofs.places.are_places.Given as goal

abbrev pub invariant-loop-row : goal.invariant-loop-row
invariant-loop-row g l = list_all (is_place l.values) (below (λ i. int (block_place l.offsets (map g.T.Integer.whole l.indices) i)) l.row) ≡ true
