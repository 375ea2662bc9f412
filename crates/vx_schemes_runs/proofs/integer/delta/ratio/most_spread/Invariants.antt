use Rattle.std.proofs.Common.{◌≡◌, ◌<◌, ◌≤◌, ◌^◌, ℕ}
use Rattle.vx_base.specs.Digits.{digits}
use Rattle.vx_scheme.specs.declared.estimate.EstimateVerdict.TheVariants.{Skip}
use Rattle.vx_schemes_runs.specs.Delta.Meaning.{delta_verdict}
use Rattle.vx_schemes_runs.specs.Thresholds.{above}
use Rattle.vx_schemes_runs.proofs.integer.delta.ratio.most_spread.Given as goal

abbrev pub invariant-loop-width : goal.invariant-loop-width
invariant-loop-width l = record {
  most : l.width ≤ 64;
  skipped : (span : ℕ) → l.width < digits span → span < 2 ^ 64 → above l.threshold (delta_verdict l.min_ratio l.len l.bits span) ≡ Skip;
}

abbrev pub decreases-loop-width : goal.decreases-loop-width
decreases-loop-width l = l.width
