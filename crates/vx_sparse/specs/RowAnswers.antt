-- What a row function answers for the patch values and for the fill, as the parts of a sparse tree.
use Rattle.std.specs.Prelude.{◌≡◌, length}
use Rattle.vx_base.specs.PlainScalar.{PlainScalar, scalar}
use Rattle.vx_model.specs.Rows.{rows, row_at}
use Rattle.vx_model.specs.Tree.{Tree, PlainPatches, sparse}
use Rattle.vx_model.specs.TreeType.{tree_type}

-- a row for each patch and one for the fill, of one type
pub record AreAnswers (p : PlainPatches) (values fills : Tree) : Type 0 where
  pub lengths : length (rows values) ≡ length (rows p.values)
  pub one : length (rows fills) ≡ 1
  pub typed : tree_type values ≡ tree_type fills

-- the first row of a tree, with its type
abbrev pub first_row : Tree → PlainScalar
first_row t = scalar (tree_type t) (row_at (rows t) 0)

-- the patches with other values, over the one row for the fill
abbrev pub over_answers : PlainPatches → Tree → Tree → Tree
over_answers p values fills = sparse p.array_len p.offset p.indices values (first_row fills)
