use Rattle.std.proofs.Common.{◌≡◌, ◌∙◌, ap, sym, subst, arith}
use Rattle.vx_base.specs.Integers.{bits_of}
use Rattle.vx_base.specs.PlainType.{integer_of}
use Rattle.vx_model.specs.Column.{column_of}
use Rattle.vx_model.specs.TreeType.{tree_type}
use Rattle.vx_scheme.specs.declared.estimate.EstimateVerdict.TheVariants.{Skip}
use Rattle.vx_schemes_runs.specs.Delta.Laws.{deltas-held}
use Rattle.vx_schemes_runs.specs.Delta.Meaning.{spread, delta_verdict}
use Rattle.vx_schemes_runs.specs.Delta.Tree.{filled_rows, differences_of}
use Rattle.vx_schemes_runs.specs.Thresholds.{above}
use Rattle.vx_schemes_runs.proofs.Delta.Ratio.{skipped-all}
use Rattle.vx_schemes_runs.proofs.Delta.Spread.{none-within}
use Rattle.vx_schemes_runs.proofs.Delta.Words.{spread-word}
use Rattle.vx_schemes_runs.proofs.integer.delta.ratio.resolved.Goals as goal

pub returns-then-most-eq0 : goal.returns-then-most-eq0
returns-then-most-eq0 c =
    let t = c.args.array.now in
    let span = spread (differences_of (column_of t)) in
    let bits : c.bit_width-bits.result ≡ bits_of (integer_of (tree_type t)) = c.bit_width-bits.ensures.width ∙ ap bits_of (c.ptype.ensures ∙ ap integer_of c.dtype.ensures) in
    let word = spread-word (integer_of (tree_type t)) (differences_of (column_of t)) (deltas-held (integer_of (tree_type t)) (filled_rows (column_of t))) in
    subst (λ v. Skip ≡ above c.args.threshold v) (λ i. delta_verdict c.args.min_ratio (c.len-len.ensures i) (bits i) span)
    (sym (skipped-all c.args.threshold c.args.min_ratio c.len-len.result c.bit_width-bits.result span (λ some. c.most_spread-most.ensures span (omega (arith, some, c.if-most-eq0.true)) word)))

pub returns-in-None : goal.returns-in-None
returns-in-None c =
    let t = c.args.array.now in
    let span = spread (differences_of (column_of t)) in
    let bits : c.bit_width-bits.result ≡ bits_of (integer_of (tree_type t)) = c.bit_width-bits.ensures.width ∙ ap bits_of (c.ptype.ensures ∙ ap integer_of c.dtype.ensures) in
    let word = spread-word (integer_of (tree_type t)) (differences_of (column_of t)) (deltas-held (integer_of (tree_type t)) (filled_rows (column_of t))) in
    let more = none-within c.most_spread-most.result (differences_of (column_of t)) (sym c.in-None.is ∙ c.in_ok-span.ensures) in
    subst (λ v. Skip ≡ above c.args.threshold v) (λ i. delta_verdict c.args.min_ratio (c.len-len.ensures i) (bits i) span) (sym (c.most_spread-most.ensures span more word))
