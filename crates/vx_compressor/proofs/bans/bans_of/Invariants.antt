use Rattle.std.proofs.Common.{◌≡◌, ◌++◌, map, drop}
use Rattle.vx_compressor.specs.Bans.{ban_of, all_bans}
use Rattle.vx_compressor.proofs.bans.bans_of.Given as goal

-- the rules so far and those of the schemes that are left are those of all
abbrev pub invariant-loop-scheme : goal.invariant-loop-scheme
invariant-loop-scheme g l = map ban_of l.bans.items ++ all_bans (map g.S.Scheme.meaning (drop l.scheme-index l.schemes)) ≡ all_bans (map g.S.Scheme.meaning l.schemes)
