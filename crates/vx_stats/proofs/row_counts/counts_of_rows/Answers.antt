use Rattle.std.proofs.Common.{◌≡◌, ◌∙◌, length, sym, ap, arith}
use Rattle.std.proofs.lemmas.Bool.{eqb-true}
use Rattle.vx_model.specs.Refusals.{validity_length}
use Rattle.vx_stats.proofs.RowCountLemmas.{counts-valid, counts-masked}
use Rattle.vx_stats.proofs.row_counts.counts_of_rows.Goals as goal

pub returns-in-Some : goal.returns-in-Some
returns-in-Some c =
    let long : length c.in-Some.mask ≡ c.args.len = eqb-true _ _ (ap (λ v. validity_length v c.args.len) (sym c.in-Some.is) ∙ c.requires) in
    λ values e none.
    let both = counts-masked c.in-Some.mask values (long ∙ sym e) none in
    rw c.in-Some.is (omega (arith, both.0, long, c.true_count-value_count.ensures), c.true_count-value_count.ensures ∙ sym both.1)

pub returns-in-None : goal.returns-in-None
returns-in-None c = λ values e none. let both = counts-valid values none in rw c.in-None.is (sym both.0, sym e ∙ sym both.1)
