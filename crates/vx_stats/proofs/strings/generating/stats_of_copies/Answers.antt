use Rattle.std.proofs.Common.{◌∙◌, ◌-◌, cond, Some, None, sym, ap}
use Rattle.vx_base.specs.PlainValue.{is_null}
use Rattle.vx_stats.proofs.EstimateLemmas.{distinct-copies}
use Rattle.vx_stats.proofs.RowCountLemmas.{counts-copies, rest-copies}
use Rattle.vx_stats.proofs.strings.generating.stats_of_copies.Goals as goal

pub returns : goal.returns
returns c =
    let len = c.args.len in
    let v = c.args.value.now.value in
    let counts = counts-copies len v in
    let some = c.copies_with-null_count.ensures ∙ ap (λ b. cond b len 0) c.is_null.ensures in
    let values = ap (λ n. len - n) some ∙ rest-copies (is_null v) len ∙ sym counts.1 in
    let estimate = c.estimate_of_copies.ensures ∙ ap (λ n. cond c.args.opts.count_distinct_values (Some n) None) (sym (distinct-copies len v)) in
    c.new.ensures ∙ (λ i. record { null_count = (some ∙ sym counts.0) i; value_count = values i; estimated_distinct_count = estimate i })
