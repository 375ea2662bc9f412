use Rattle.std.proofs.Common.{◌≡◌, take, map, true}
use Rattle.std.specs.List.{list_all}
use Rattle.vx_base.specs.PlainValue.{int}
use Rattle.vx_model.specs.Rows.{masked_rows}
use Rattle.vx_model.specs.WellFormed.{is_place}
use Rattle.vx_values.specs.IntsOf.{wholes_of}
use Rattle.vx_selections.proofs.takes.places.are_places_where.Given as goal

abbrev pub invariant-loop-row : goal.invariant-loop-row
invariant-loop-row l = list_all (is_place l.len) (take l.row (masked_rows l.bits (map int (wholes_of l.codes)))) ≡ true
