use Rattle.std.proofs.Common.{◌≡◌, ◌<◌, ℕ, drop, false, map}
use Rattle.vx_rows.specs.Items.{plain_item, starts}
use Rattle.vx_rows.proofs.searching.leftmost.Given as goal

-- it fits at no place before
abbrev pub invariant-loop-place : goal.invariant-loop-place
invariant-loop-place g l = (k : ℕ) → k < l.place → starts (map plain_item l.piece) (drop k (map g.C.Character.code l.text)) ≡ false
