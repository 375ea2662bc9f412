use Rattle.std.proofs.Common.{◌≡◌, subst}
use Rattle.vx_base.specs.Answers.{OrMemory}
use Rattle.vx_blocks.specs.Runs.{run_ends}
use Rattle.vx_schemes_runs.proofs.RunParts.{bits_long, optional_are}
use Rattle.vx_schemes_runs.proofs.integer.run_end.tree.ends_of.Goals as goal

pub runs-requires : goal.runs-requires
runs-requires c = bits_long c.args.array.now _ _ _ _ c.as_primitive.ensures.tree c.as_primitive.ensures.well_formed c.requires.plain c.args.valid.now c.requires.valid

pub returns : goal.returns
returns c =
    subst (λ os. OrMemory c.runs.result (λ ends. ends ≡ run_ends os))
    (optional_are c.args.array.now _ _ _ _ c.as_primitive.ensures.tree c.as_primitive.ensures.well_formed c.requires.plain c.args.valid.now c.requires.valid) c.runs.ensures
