use Rattle.std.proofs.Common.{◌<◌, inl, inr, arith, subst}
use Rattle.std.proofs.lemmas.Bool.{cases_lt}
use Rattle.vx_base.proofs.DigitsLemmas.{digits-le}
use Rattle.vx_base.specs.Digits.{digits}
use Rattle.vx_schemes_common.proofs.DigitLemmas.{digits-some, more_digits}
use Rattle.vx_schemes_runs.proofs.integer.delta.ratio.most_spread.Goals as goal

pub loop-width-init : goal.loop-width-init
loop-width-init c = record { most = omega arith; skipped = λ span more word. absurd (omega (arith, more, digits-le span 64 word)) }

pub loop-width-preserved : goal.loop-width-preserved
loop-width-preserved c =
    let width = c.loop-width.width in
    let so_far = c.loop-width.invariant in
    record {
      most = omega (arith, so_far.most);
      skipped = λ span more word. elim (cases_lt width (digits span)) [
        | inl above ↦ so_far.skipped span above word
        | inr below ↦ c.is_skipped.ensures c.if-not-is_skipped.false span (omega (arith, more, below))
      ];
    }

pub returns-then-not-is_skipped : goal.returns-then-not-is_skipped
returns-then-not-is_skipped c = λ span above word.
    let more = subst (λ most. most < span) c.greatest_of.ensures above in
    c.loop-width.invariant.skipped span (more_digits c.loop-width.width span more word) word

pub returns : goal.returns
returns c = λ span above word. c.loop-width.invariant.skipped span (omega (arith, digits-some span above, c.loop-width-test.false)) word
