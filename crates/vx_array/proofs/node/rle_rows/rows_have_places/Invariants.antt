use Rattle.std.proofs.Common.{◌≡◌, true}
use Rattle.std.specs.List.{list_all}
use Rattle.vx_model.specs.Rows.{rows, below, rle_place}
use Rattle.vx_model.specs.WellFormed.{is_place}
use Rattle.vx_array.proofs.node.rle_rows.rows_have_places.Given as goal

abbrev pub invariant-loop-row : goal.invariant-loop-row
invariant-loop-row l = list_all (is_place l.values) (below (rle_place (rows l.offsets) (rows l.indices)) l.row) ≡ true
