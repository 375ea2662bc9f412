use Rattle.std.proofs.Common.{◌≡◌, true, sym, subst}
use Rattle.vx_base.specs.PlainScalar.{fits}
use Rattle.vx_base.specs.PlainValue.{null}
use Rattle.vx_sparse_array.proofs.NullCounts.{nulls-fit}
use Rattle.vx_sparse_array.proofs.filled.null_tree.Goals as goal

pub of_cell-requires : goal.of_cell-requires
of_cell-requires c = subst (λ t. fits t null ≡ true) (sym c.dtype.ensures) (nulls-fit c.args.array.now c.known.ensures c.requires.some c.requires.nulls)
