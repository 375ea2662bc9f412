use Rattle.std.proofs.Common.{subst}
use Rattle.vx_model.specs.Rows.{rows}
use Rattle.vx_schemes_runs.specs.Sparse.Vote.{CountsMost}
use Rattle.vx_schemes_runs.proofs.integer.sparse.vote.winner_count.Goals as goal

pub returns : goal.returns
returns c = subst (λ t. CountsMost (rows t) c.winner_count_of_ints.result) c.as_primitive.ensures.tree c.winner_count_of_ints.ensures
