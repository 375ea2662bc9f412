use Rattle.std.proofs.Common.{◌≡◌, ◌++◌, drop, map}
use Rattle.vx_rules.specs.Patterns.{pattern_items}
use Rattle.vx_rows.specs.Items.{left_items, plain_item}
use Rattle.vx_rows.proofs.pattern.read_pattern.Given as goal

-- the items so far, and those of what is left
abbrev pub invariant-loop-place : goal.invariant-loop-place
invariant-loop-place l = map plain_item l.items.items ++ left_items l.is_escaped (drop l.place l.pattern) ≡ pattern_items l.pattern
