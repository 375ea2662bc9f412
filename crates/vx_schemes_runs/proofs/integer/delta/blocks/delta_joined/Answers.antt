use Rattle.std.proofs.Common.{◌∙◌, sym}
use Rattle.vx_model.specs.Column.{column_of}
use Rattle.vx_model.proofs.MadeLemmas.{rows_fit}
use Rattle.vx_schemes_runs.proofs.Delta.Blocks.{joined-admitted}
use Rattle.vx_schemes_runs.proofs.integer.delta.blocks.delta_joined.Goals as goal

pub summed-requires-clause-admitted : goal.summed-requires-clause-admitted
summed-requires-clause-admitted c =
    joined-admitted (column_of c.args.array.now) c.args.trees c.in-Some.bases c.in-Some.differences c.requires.integer (rows_fit c.args.array.now c.known.ensures) (sym c.in-Some.is ∙ c.pair_of.ensures) c.requires.trees
