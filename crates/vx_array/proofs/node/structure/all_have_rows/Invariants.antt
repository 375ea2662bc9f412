use Rattle.std.proofs.Common.{◌≡◌, length, take, true}
use Rattle.std.specs.List.{list_all}
use Rattle.std.specs.Prelude.{◌==◌}
use Rattle.vx_model.specs.Rows.{rows}
use Rattle.vx_array.proofs.node.structure.all_have_rows.Given as goal

abbrev pub invariant-loop-field : goal.invariant-loop-field
invariant-loop-field l = list_all (λ t. length (rows t) == l.len) (take l.field-index l.field-items) ≡ true
