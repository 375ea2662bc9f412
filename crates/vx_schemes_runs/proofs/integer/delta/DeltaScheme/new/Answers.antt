use Rattle.vx_schemes_runs.proofs.Delta.Produced.{deltas-produced}
use Rattle.vx_schemes_runs.proofs.integer.delta.DeltaScheme.new.Goals as goal

pub returns-clause-produced : goal.returns-clause-produced
returns-clause-produced c = deltas-produced (record { min_ratio = c.args.min_ratio })
