use Rattle.std.proofs.Common.{subst}
use Rattle.vx_model.specs.WellFormed.{WellFormed}
use Rattle.vx_model.proofs.SparseLemmas.{parts-sparse_of}
use Rattle.vx_sparse.proofs.kernels.arrays.typed.Goals as goal

pub returns : goal.returns
returns c = (parts-sparse_of c.args.patches.now c.args.fill.now (subst WellFormed c.requires c.known.ensures)).1.values_type
