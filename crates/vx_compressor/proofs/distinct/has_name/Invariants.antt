use Rattle.std.proofs.Common.{◌≡◌, map, drop}
use Rattle.std.specs.List.{list_any}
use Rattle.vx_scheme.specs.Names.{name_of, same_name}
use Rattle.vx_compressor.specs.Distinct.{names_of}
use Rattle.vx_compressor.proofs.distinct.has_name.Given as goal

-- whether one of those that are left has the name is whether one of all has
abbrev pub invariant-loop-scheme : goal.invariant-loop-scheme
invariant-loop-scheme g l =
    list_any (same_name (name_of l.id)) (names_of (map g.S.Scheme.meaning (drop l.scheme-index l.schemes))) ≡ list_any (same_name (name_of l.id)) (names_of (map g.S.Scheme.meaning l.schemes))
