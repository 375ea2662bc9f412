use Rattle.vx_model.specs.Column.{column_of}
use Rattle.vx_model.proofs.MadeLemmas.{rows_fit}
use Rattle.vx_schemes_runs.proofs.Sparse.Split.{fill-held}
use Rattle.vx_schemes_runs.proofs.integer.sparse.parts.parts_by.Goals as goal

pub values_and_rows-requires-clause-held : goal.values_and_rows-requires-clause-held
values_and_rows-requires-clause-held c = let t = c.args.array.now in fill-held (column_of t) c.args.fill c.requires.integer (rows_fit t c.known.ensures) c.requires.fill
