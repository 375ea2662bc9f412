use Rattle.std.proofs.Common.{◌≡◌, take, map, true}
use Rattle.std.specs.List.{list_all}
use Rattle.vx_base.specs.PlainScalar.{fits}
use Rattle.vx_base.specs.PlainValue.{bytes}
use Rattle.vx_base.specs.TypeOf.{type_of}
use Rattle.vx_model.specs.Refusals.{kept}
use Rattle.vx_model.specs.Rows.{valid_rows}
use Rattle.vx_flat.proofs.var_bin_view.are_values.Given as goal

abbrev pub invariant-loop-row : goal.invariant-loop-row
invariant-loop-row l = list_all (fits (type_of l.dtype)) (take l.row (valid_rows (kept l.valid) (map bytes l.values))) ≡ true
