use Rattle.std.proofs.Common.{◌≡◌, fold, map, take}
use Rattle.vx_base.specs.PlainValue.{int}
use Rattle.vx_model.specs.Rows.{valid_rows}
use Rattle.vx_rows.specs.Used.{marked}
use Rattle.vx_rows.proofs.used.mark_items.Given as goal

abbrev pub invariant-loop-row : goal.invariant-loop-row
invariant-loop-row g l = l.named ≡ fold marked l.fn.named (take l.row (valid_rows l.fn.valid (map int (map g.T.Integer.whole l.codes))))
