use Rattle.std.proofs.Common.{◌≡◌, true, All, take}
use Rattle.std.specs.List.{list_any}
use Rattle.vx_stats.specs.Options.{includes}
use Rattle.vx_compressor.proofs.eligible.merged_options.Given as goal

-- those so far are included, and nothing else
abbrev pub invariant-loop-scheme : goal.invariant-loop-scheme
invariant-loop-scheme g l = record {
  all : All (λ s. includes l.options (g.S.Scheme.meaning s).options ≡ true) (take l.scheme-index l.schemes);
  exact : l.options.count_distinct_values ≡ list_any (λ s. (g.S.Scheme.meaning s).options.count_distinct_values) (take l.scheme-index l.schemes);
}
