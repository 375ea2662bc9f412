use Rattle.std.proofs.Common.{◌≡◌, true}
use Rattle.std.specs.List.{list_all}
use Rattle.vx_base.specs.Masks.{rows_between}
use Rattle.vx_base.specs.PlainValue.{same_value}
use Rattle.vx_model.specs.Rows.{rows, row_at}
use Rattle.vx_schemes.proofs.patches.shared_row.Given as goal

abbrev pub invariant-loop-row : goal.invariant-loop-row
invariant-loop-row l = list_all (λ w. same_value w (row_at (rows l.plain) 0)) (rows_between (rows l.plain) 1 l.row) ≡ true
