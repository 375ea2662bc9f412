use Rattle.std.proofs.Common.{◌∙◌, sym, arith}
use Rattle.vx_model.specs.Rows.{rows}
use Rattle.vx_schemes_text.proofs.ViewParts.{count-by_mask, count-of_all, counts-all}
use Rattle.vx_schemes_text.proofs.views.value_count.Goals as goal

pub returns-in-Some-clause-count : goal.returns-in-Some-clause-count
returns-in-Some-clause-count c = c.true_count.ensures ∙ count-by_mask (rows c.args.plain.now) c.in-Some.mask (sym c.in-Some.is ∙ c.views_of.ensures.valid)

pub returns-in-Some-clause-few : goal.returns-in-Some-clause-few
returns-in-Some-clause-few c =
    let count = c.true_count.ensures ∙ count-by_mask (rows c.args.plain.now) c.in-Some.mask (sym c.in-Some.is ∙ c.views_of.ensures.valid) in
    omega (arith, count, counts-all (rows c.args.plain.now))

pub returns-in-None-clause-count : goal.returns-in-None-clause-count
returns-in-None-clause-count c = c.len.ensures ∙ count-of_all (rows c.args.plain.now) (sym c.in-None.is ∙ c.views_of.ensures.valid)
