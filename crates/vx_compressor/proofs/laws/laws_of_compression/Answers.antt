use Rattle.vx_model.proofs.LeafLemmas.{counts_within_extents}
use Rattle.vx_compressor.proofs.CascadeLemmas.{keeps_rows_and_type, again_the_same, never_larger_by, by_the_column_alone_by}
use Rattle.vx_compressor.proofs.KeptLemmas.{extents_are_counts, answers_are_fixed}
use Rattle.vx_compressor.proofs.ReachedLemmas.{sites_are_bounded}
use Rattle.vx_compressor.proofs.laws.laws_of_compression.Goals as goal

pub returns-clause-keeps : goal.returns-clause-keeps
returns-clause-keeps c = keeps_rows_and_type

pub returns-clause-again : goal.returns-clause-again
returns-clause-again c = again_the_same

pub returns-clause-extents : goal.returns-clause-extents
returns-clause-extents c = extents_are_counts

pub returns-clause-fixed : goal.returns-clause-fixed
returns-clause-fixed c = answers_are_fixed

pub returns-clause-never_larger : goal.returns-clause-never_larger
returns-clause-never_larger c = never_larger_by

pub returns-clause-alone : goal.returns-clause-alone
returns-clause-alone c = by_the_column_alone_by

pub returns-clause-counts : goal.returns-clause-counts
returns-clause-counts c = counts_within_extents

pub returns-clause-sites : goal.returns-clause-sites
returns-clause-sites c = sites_are_bounded
