use Rattle.std.proofs.Common.{◌≡◌, ◌-◌, map, take}
use Rattle.vx_schemes_runs.proofs.integer.run_end.tree.lasts.Given as goal

abbrev pub invariant-loop-place : goal.invariant-loop-place
invariant-loop-place l = l.lasts.items ≡ map (λ end. end - 1) (take l.place l.ends)
