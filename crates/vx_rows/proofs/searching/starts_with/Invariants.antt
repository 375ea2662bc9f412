use Rattle.std.proofs.Common.{◌≡◌, drop, map}
use Rattle.vx_rows.specs.Items.{plain_item, starts}
use Rattle.vx_rows.proofs.searching.starts_with.Given as goal

-- the characters so far are taken
abbrev pub invariant-loop-place : goal.invariant-loop-place
invariant-loop-place g l =
    starts (map plain_item l.piece) (map g.C.Character.code l.text) ≡ starts (drop l.place (map plain_item l.piece)) (drop l.place (map g.C.Character.code l.text))
