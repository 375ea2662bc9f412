use Rattle.std.proofs.Common.{◌≡◌, ◌≤◌, ◌∷◌, length, map}
use Rattle.vx_rules.specs.Patterns.{any_run, matches}
use Rattle.vx_rows.specs.Items.{plain_item}
use Rattle.vx_rows.proofs.searching.some_suffix_matches.Given as goal

-- what is left is as good as the whole, and no longer
abbrev pub invariant-loop-left : goal.invariant-loop-left
invariant-loop-left g l = record {
  same : matches (any_run ∷ map plain_item l.items) (map g.C.Character.code l.text) ≡ matches (any_run ∷ map plain_item l.left) (map g.C.Character.code l.rest);
  within : length l.left ≤ length l.items;
}

abbrev pub decreases-loop-left : goal.decreases-loop-left
decreases-loop-left g l = length l.left
