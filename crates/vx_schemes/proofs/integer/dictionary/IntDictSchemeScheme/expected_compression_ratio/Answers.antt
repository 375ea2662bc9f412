use Rattle.std.proofs.Common.{◌≤◌, length, sym, subst}
use Rattle.vx_model.specs.Rows.{rows}
use Rattle.vx_scheme.specs.Asked.{most_rows}
use Rattle.vx_schemes.proofs.Dictionary.Ratio.{average-positive}
use Rattle.vx_schemes_common.proofs.KeptLemmas.{no_refusal, kept_or_decided}
use Rattle.vx_schemes.proofs.integer.dictionary.IntDictSchemeScheme.expected_compression_ratio.Goals as goal

pub verdict_by-requires-clause-run_length : goal.verdict_by-requires-clause-run_length
verdict_by-requires-clause-run_length c =
    let column = c.is_mostly_distinct.new.self in
    let few = subst (λ t. length (rows t) ≤ most_rows) (sym c.in_ok-is_mostly_distinct.ensures.same.array) c.requires.column.few in
    let stats = kept_or_decided column.integers_kept _ _ _ (no_refusal (rows column.array) few) c.in_ok-stats.ensures.answer in
    average-positive _ _ (rows column.array) _ stats
