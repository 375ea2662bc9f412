use Rattle.std.proofs.Common.{◌≡◌, subst}
use Rattle.vx_base.specs.Answers.{OrMemory}
use Rattle.vx_blocks.specs.Runs.{heads, run_numbers, offsets}
use Rattle.vx_schemes_runs.proofs.RunParts.{bits_long, optional_are}
use Rattle.vx_schemes_runs.proofs.integer.run_length.tree.runs_of.Goals as goal

pub block_runs-requires : goal.block_runs-requires
block_runs-requires c = bits_long c.args.array.now _ _ _ _ c.as_primitive.ensures.tree c.as_primitive.ensures.well_formed c.requires.plain c.args.valid.now c.requires.valid

pub returns-clause-heads : goal.returns-clause-heads
returns-clause-heads c =
    subst (λ os. OrMemory c.block_runs.result (λ made. made.heads ≡ heads os))
    (optional_are c.args.array.now _ _ _ _ c.as_primitive.ensures.tree c.as_primitive.ensures.well_formed c.requires.plain c.args.valid.now c.requires.valid) c.block_runs.ensures.heads

pub returns-clause-numbers : goal.returns-clause-numbers
returns-clause-numbers c =
    subst (λ os. OrMemory c.block_runs.result (λ made. made.numbers ≡ run_numbers os))
    (optional_are c.args.array.now _ _ _ _ c.as_primitive.ensures.tree c.as_primitive.ensures.well_formed c.requires.plain c.args.valid.now c.requires.valid) c.block_runs.ensures.numbers

pub returns-clause-offsets : goal.returns-clause-offsets
returns-clause-offsets c =
    subst (λ os. OrMemory c.block_runs.result (λ made. made.offsets ≡ offsets os))
    (optional_are c.args.array.now _ _ _ _ c.as_primitive.ensures.tree c.as_primitive.ensures.well_formed c.requires.plain c.args.valid.now c.requires.valid) c.block_runs.ensures.offsets
