use Rattle.std.proofs.Common.{◌≡◌, map, take, false, get_or}
use Rattle.vx_schemes_runs.proofs.integer.runs.bits_at.Given as goal

abbrev pub invariant-loop-place : goal.invariant-loop-place
invariant-loop-place l = l.some.items ≡ map (λ k. get_or l.bits k false) (take l.place l.numbers)
