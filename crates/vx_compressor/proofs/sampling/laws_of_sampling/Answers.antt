use Rattle.vx_compressor.proofs.SamplingLemmas.{partitions_cover, slices_lie, counts_are_least}
use Rattle.vx_compressor.proofs.sampling.laws_of_sampling.Goals as goal

pub returns-clause-partitions : goal.returns-clause-partitions
returns-clause-partitions c = partitions_cover

pub returns-clause-slices : goal.returns-clause-slices
returns-clause-slices c = slices_lie

pub returns-clause-counts : goal.returns-clause-counts
returns-clause-counts c = counts_are_least
