use Rattle.std.proofs.Common.{◌≡◌, ◌≤◌, drop, length, map}
use Rattle.vx_rules.specs.Patterns.{matches}
use Rattle.vx_rows.specs.Items.{plain_item}
use Rattle.vx_rows.proofs.searching.fitting.Given as goal

abbrev pub invariant-loop-place : goal.invariant-loop-place
invariant-loop-place g l = record {
  in_text : l.place ≤ length l.text;
  same : matches (map plain_item l.items) (map g.C.Character.code l.text) ≡ matches (drop l.place (map plain_item l.items)) (drop l.place (map g.C.Character.code l.text));
}
