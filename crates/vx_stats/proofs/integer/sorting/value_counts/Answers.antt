use Rattle.std.proofs.Common.{map, ap, ◌∙◌}
use Rattle.std.proofs.lemmas.List.Sorted.{IsPermutation-map}
use Rattle.vx_stats.specs.Runs.{runs}
use Rattle.vx_stats.proofs.DistinctLemmas.{value_counts-rising, value_counts-permutation}
use Rattle.vx_stats.proofs.integer.sorting.value_counts.Goals as goal

pub returns : goal.returns
returns g c =
    let whole = g.T.Integer.whole in
    let before = c.args.items.items in
    let after = c.sorted-sorted.result.items in
    c.new.ensures ∙ c.in_ok-run_lengths.ensures.runs ∙ ap (λ l. runs (map whole l)) c.as_slice.ensures.value ∙ value_counts-rising (map whole after) c.sorted-sorted.ensures.rising
    ∙ value_counts-permutation (map whole before) (map whole after) (IsPermutation-map whole before after c.sorted-sorted.ensures.same)
