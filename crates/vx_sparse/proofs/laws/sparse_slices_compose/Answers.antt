use Rattle.vx_sparse.proofs.ComposedSlices.{sparse_slices_compose}
use Rattle.vx_sparse.proofs.laws.sparse_slices_compose.Goals as goal

pub returns : goal.returns
returns c = sparse_slices_compose
