use Rattle.std.proofs.Common.{◌≡◌, map, drop}
use Rattle.vx_compressor.specs.Distinct.{are_distinct, names_of}
use Rattle.vx_compressor.proofs.distinct.are_distinct.Given as goal

-- whether those that are left are distinct is whether all are
abbrev pub invariant-loop-place : goal.invariant-loop-place
invariant-loop-place g l = are_distinct (names_of (map g.S.Scheme.meaning (drop l.place l.schemes))) ≡ are_distinct (names_of (map g.S.Scheme.meaning l.schemes))
