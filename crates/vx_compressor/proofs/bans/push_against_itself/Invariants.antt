use Rattle.std.proofs.Common.{◌≡◌, ◌++◌, map, take}
use Rattle.vx_scheme.specs.Names.{name_of}
use Rattle.vx_scheme.specs.Rules.{ancestors_of}
use Rattle.vx_compressor.specs.Bans.{ban_of, against_itself}
use Rattle.vx_compressor.proofs.bans.push_against_itself.Given as goal

-- the rules so far
abbrev pub invariant-loop-rule : goal.invariant-loop-rule
invariant-loop-rule g l = map ban_of l.bans.items ≡ map ban_of l.fn.bans.items ++ against_itself (name_of l.id) (ancestors_of (take l.rule-index l.rule-items))
