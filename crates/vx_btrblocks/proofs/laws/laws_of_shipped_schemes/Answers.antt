use Rattle.vx_schemes.proofs.Produced.{frames-produced, zigzags-produced, packings-produced, dictionaries-produced}
use Rattle.vx_schemes_runs.proofs.Delta.Produced.{deltas-produced}
use Rattle.vx_schemes_runs.proofs.RunsProduced.{run_ends-produced, blocks-produced}
use Rattle.vx_schemes_runs.proofs.Sparse.Produced.{sparse-produced}
use Rattle.vx_schemes_runs.proofs.Sequence.Produced.{sequences-produced}
use Rattle.vx_schemes_text.proofs.Produced.{string_dicts-produced, null_sparse-produced, binary_dicts-produced, var_bins-produced}
use Rattle.vx_schemes_time.proofs.Produced.{temporals-produced}
use Rattle.vx_btrblocks.proofs.laws.laws_of_shipped_schemes.Goals as goal

pub returns-clause-frames : goal.returns-clause-frames
returns-clause-frames c = frames-produced

pub returns-clause-zigzags : goal.returns-clause-zigzags
returns-clause-zigzags c = zigzags-produced

pub returns-clause-packings : goal.returns-clause-packings
returns-clause-packings c = packings-produced

pub returns-clause-dictionaries : goal.returns-clause-dictionaries
returns-clause-dictionaries c = dictionaries-produced

pub returns-clause-run_ends : goal.returns-clause-run_ends
returns-clause-run_ends c = run_ends-produced

pub returns-clause-blocks : goal.returns-clause-blocks
returns-clause-blocks c = blocks-produced

pub returns-clause-sequences : goal.returns-clause-sequences
returns-clause-sequences c = sequences-produced

pub returns-clause-deltas : goal.returns-clause-deltas
returns-clause-deltas c = deltas-produced

pub returns-clause-sparse : goal.returns-clause-sparse
returns-clause-sparse c = sparse-produced

pub returns-clause-text_dictionaries : goal.returns-clause-text_dictionaries
returns-clause-text_dictionaries c = string_dicts-produced

pub returns-clause-sparse_texts : goal.returns-clause-sparse_texts
returns-clause-sparse_texts c = null_sparse-produced

pub returns-clause-binary_dictionaries : goal.returns-clause-binary_dictionaries
returns-clause-binary_dictionaries c = binary_dicts-produced

pub returns-clause-concatenations : goal.returns-clause-concatenations
returns-clause-concatenations c = var_bins-produced

pub returns-clause-timestamps : goal.returns-clause-timestamps
returns-clause-timestamps c = temporals-produced
