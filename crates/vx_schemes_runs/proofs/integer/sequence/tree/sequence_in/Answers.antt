use Rattle.std.proofs.Common.{◌∙◌, sym, subst}
use Rattle.vx_model.specs.WellFormed.{WellFormed}
use Rattle.vx_schemes_runs.proofs.Sequence.Verdict.{sequence_is}
use Rattle.vx_schemes_runs.proofs.integer.sequence.tree.sequence_in.Goals as goal

pub returns : goal.returns
returns c =
    let a = c.as_primitive in
    c.sequence.ensures ∙ sequence_is c.args.array.now _ _ a.result.1.now a.result.2 (subst WellFormed a.ensures.tree a.ensures.well_formed) (sym a.ensures.tree) c.requires.plain (sym c.has_null.ensures ∙ c.if-has_null.false)
