use Rattle.std.proofs.Common.{◌≡◌}
use Rattle.std.specs.Prelude.{filter}
use Rattle.std.specs.List.{range_with_len}
use Rattle.vx_model.specs.Rows.{is_valid_at}
use Rattle.vx_schemes_text.proofs.string.sparse.tree.valid_numbers.Given as goal

abbrev pub invariant-loop-row : goal.invariant-loop-row
invariant-loop-row l = l.numbers.items ≡ filter (is_valid_at l.valid) (range_with_len 0 l.row)
