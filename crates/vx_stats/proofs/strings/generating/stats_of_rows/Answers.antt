use Rattle.std.proofs.Common.{◌∙◌, map, sym}
use Rattle.std.proofs.lemmas.List.{length-map}
use Rattle.vx_base.specs.PlainValue.{bytes}
use Rattle.vx_stats.proofs.EstimateLemmas.{none-null}
use Rattle.vx_stats.proofs.strings.generating.stats_of_rows.Goals as goal

pub returns : goal.returns
returns c =
    let vs = c.args.values.now in
    let counts = c.counts_of_rows-counts.ensures (map bytes vs) (length-map vs bytes ∙ sym c.len.ensures) (none-null vs) in
    c.new.ensures ∙ (λ i. record { null_count = counts.0 i; value_count = counts.1 i; estimated_distinct_count = c.in_ok-estimate.ensures i })
