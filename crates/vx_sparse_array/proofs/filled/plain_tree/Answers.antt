use Rattle.vx_sparse_array.proofs.PlainMade.{made-plain, made-column}
use Rattle.vx_sparse_array.proofs.filled.plain_tree.Goals as goal

pub returns-clause-plain : goal.returns-clause-plain
returns-clause-plain c = made-plain c.args.array.now c.canonical.result c.known.ensures c.canonical.ensures.tree

pub returns-clause-column : goal.returns-clause-column
returns-clause-column c = made-column c.args.array.now c.canonical.result c.known.ensures c.canonical.ensures.tree
