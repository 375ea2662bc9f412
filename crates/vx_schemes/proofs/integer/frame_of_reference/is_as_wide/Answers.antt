use Rattle.std.proofs.Common.{◌∙◌, ap, sym}
use Rattle.std.specs.Prelude.{nat_lt}
use Rattle.vx_stats.specs.Erased.{ptype_in, extremes_of}
use Rattle.vx_schemes.proofs.WidthLemmas.{wide-some}
use Rattle.vx_schemes.proofs.integer.frame_of_reference.is_as_wide.Goals as goal

pub returns-in-Some : goal.returns-in-Some
returns-in-Some c =
    let e = extremes_of c.args.erased.now in
    ap (nat_lt c.in-Some.log) c.digits.ensures.digits
    ∙ wide-some (ptype_in c.args.erased.now) e.least e.greatest c.args.span c.in-Some.log c.requires.ordered (sym c.min_is_negative.ensures ∙ c.if-min_is_negative.false) c.in-Some.ensures c.requires.span
