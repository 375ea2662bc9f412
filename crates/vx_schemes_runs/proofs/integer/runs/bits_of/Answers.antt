use Rattle.std.proofs.Common.{subst}
use Rattle.vx_base.specs.Answers.{Answers}
use Rattle.vx_schemes_runs.proofs.RunParts.{bits_are}
use Rattle.vx_schemes_runs.proofs.integer.runs.bits_of.Goals as goal

pub returns : goal.returns
returns c =
    let a = c.as_primitive in
    subst (Answers c.mask_of.result) (bits_are c.args.array.now _ _ _ _ a.ensures.tree a.ensures.well_formed c.requires.plain c.len.result c.len.ensures) c.mask_of.ensures
