use Rattle.std.proofs.Common.{◌≡◌, ◌∙◌, length, sym, ap, arith}
use Rattle.std.proofs.lemmas.Bool.{eqb-true}
use Rattle.vx_model.specs.Refusals.{validity_length}
use Rattle.vx_stats.proofs.StatsLemmas.{count-nulls, count-values, count-none, valid_wholes-map-int}
use Rattle.vx_stats.proofs.integer.counts.count_rows.Goals as goal

pub returns-in-Some : goal.returns-in-Some
returns-in-Some c =
    let long : length c.in-Some.mask ≡ c.args.len = eqb-true _ _ (ap (λ v. validity_length v c.args.len) (sym c.in-Some.is) ∙ c.requires) in
    λ zs e.
    let same : length c.in-Some.mask ≡ length zs = long ∙ sym e in
    rw c.in-Some.is
    (omega (arith, count-nulls c.in-Some.mask zs same, c.true_count-value_count.ensures), c.true_count-value_count.ensures ∙ sym (count-values c.in-Some.mask zs same))

pub returns-in-None : goal.returns-in-None
returns-in-None c = λ zs e. rw c.in-None.is (sym (count-none zs), sym e ∙ sym (ap length (valid_wholes-map-int zs)))
