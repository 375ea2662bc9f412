use Rattle.std.proofs.Common.{◌≡◌, length}
use Rattle.vx_base.specs.PlainScalar.{scalar}
use Rattle.vx_model.specs.Rows.{rows, row_at}
use Rattle.vx_model.specs.Tree.{constant}
use Rattle.vx_model.specs.TreeType.{tree_type}
use Rattle.vx_model.proofs.OneValueLemmas.{first_valid-valid}
use Rattle.vx_compressor.proofs.OneValueTrees.{answers_along, first_fits, behind_of}
use Rattle.vx_compressor.proofs.constant.value_tree.Goals as goal

pub cell_at-requires-clause-flat : goal.cell_at-requires-clause-flat
cell_at-requires-clause-flat c = c.requires.flat

pub of_cell-requires : goal.of_cell-requires
of_cell-requires c = rw (c.dtype.ensures, c.cell_at.ensures) (first_fits c.args.plain.now _ c.known.ensures c.requires.first)

pub behind-requires : goal.behind-requires
behind-requires c =
    let t = c.args.plain.now in
    let v = row_at (rows t) c.args.row in
    let every : c.constant-every.result ≡ constant (scalar (tree_type t) v) (length (rows t)) =
    rw (c.constant-every.ensures, c.in_ok-value.ensures, c.dtype.ensures, c.cell_at.ensures, c.len.ensures) in
    (behind_of t c.constant-every.result _ v c.known.ensures c.requires.flat (first_valid-valid (rows t) v c.requires.first) c.validity.ensures every).admitted

pub returns : goal.returns
returns c =
    let t = c.args.plain.now in
    let v = row_at (rows t) c.args.row in
    let every : c.constant-every.result ≡ constant (scalar (tree_type t) v) (length (rows t)) =
    rw (c.constant-every.ensures, c.in_ok-value.ensures, c.dtype.ensures, c.cell_at.ensures, c.len.ensures) in
    answers_along c.behind.result _ _ (behind_of t c.constant-every.result _ v c.known.ensures c.requires.flat (first_valid-valid (rows t) v c.requires.first) c.validity.ensures every).one c.behind.ensures
