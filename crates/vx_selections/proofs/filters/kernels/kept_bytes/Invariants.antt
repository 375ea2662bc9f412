use Rattle.std.proofs.Common.{◌≡◌, take}
use Rattle.vx_rules.specs.Selections.{kept_items}
use Rattle.vx_selections.proofs.filters.kernels.kept_bytes.Given as goal

abbrev pub invariant-loop-row : goal.invariant-loop-row
invariant-loop-row l = l.out.items ≡ kept_items (take l.row l.bits) l.rows
