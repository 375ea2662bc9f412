use Rattle.std.proofs.Common.{◌∙◌, sym}
use Rattle.vx_schemes_runs.proofs.Sparse.Ratio.{mostly-null, frequent}
use Rattle.vx_schemes_runs.proofs.integer.sparse.ratio.verdict.Goals as goal

pub returns-then-is_mostly_null : goal.returns-then-is_mostly_null
returns-then-is_mostly_null c =
    let a = c.args in
    mostly-null a.rows a.nulls a.values a.often c.new.result c.if-values-eq0.false (sym c.is_mostly_null.ensures ∙ c.if-is_mostly_null.true) c.new.ensures.num c.new.ensures.den

pub returns : goal.returns
returns c =
    let a = c.args in
    frequent a.rows a.nulls a.values a.often c.new-2.result c.if-values-eq0.false (sym c.is_mostly_null.ensures ∙ c.if-is_mostly_null.false) c.if-often-values.false c.if-often-values-2.false c.new-2.ensures.num c.new-2.ensures.den
