use Rattle.std.proofs.Common.{◌≡◌, map}
use Rattle.vx_base.specs.PlainValue.{int}
use Rattle.vx_model.specs.Rows.{cut_at}
use Rattle.vx_values.proofs.Kept.{kept_to}
use Rattle.vx_values.proofs.byte_rows.cut_by.Given as goal

abbrev pub invariant-loop-row : goal.invariant-loop-row
invariant-loop-row g l = l.rows.items ≡ kept_to (cut_at (map int (map g.T.Integer.whole l.offsets)) l.bytes) l.valid l.row
