use Rattle.std.proofs.Common.{◌∙◌, ap}
use Rattle.vx_base.proofs.MakesLemmas.{Makes_ok}
use Rattle.vx_model.specs.Nodes.{encoding}
use Rattle.vx_model.proofs.SparseLemmas.{encoding-sparse_of}
use Rattle.vx_sparse_array.proofs.encode.Sparse.try_new_from_patches.Goals as goal

pub invariant_of-result : goal.invariant_of-result
invariant_of-result c = ap encoding (Makes_ok _ _ _ _ c.in-Ok.ensures) ∙ encoding-sparse_of c.args.patches c.args.fill_value
