-- Trees whose rows are read where they stand, and their rows.
use Rattle.std.specs.Prelude.{◌≡◌, Bool, true, false, List, map, length, replicate}
use Rattle.vx_base.specs.CellValue.{cell_value}
use Rattle.vx_base.specs.PlainValue.{PlainValue, truth, int, bytes}
use Rattle.vx_model.specs.Refusals.{validity_length}
use Rattle.vx_model.specs.Rows.{valid_rows}
use Rattle.vx_model.specs.Rows as trees
use Rattle.vx_model.specs.Tree.{Tree, bool, primitive, var_bin_view, timestamp, constant}
use Rattle.vx_model.specs.TreeType.{tree_type}
use Rattle.vx_values.specs.IntsOf.{wholes_of}
use Rattle.vx_rows.specs.declared.held.Held.{Held}
use Rattle.vx_rows.specs.declared.held.Held.TheVariants.{Given, Decoded}
use Rattle.vx_rows.specs.declared.lent.Lent.{Lent}
use Rattle.vx_rows.specs.declared.lent.Lent.TheVariants.{Bits, Ints, Bytes, Same}

-- whether rows are read where they stand: those of a plain flat node, and a constant
abbrev pub is_readable : Tree → Bool
is_readable (bool bs valid n) = true
is_readable (primitive p xs valid n) = true
is_readable (var_bin_view vs valid t) = true
is_readable (constant s len) = true
is_readable (timestamp storage k) = is_readable storage
is_readable _ = false

-- the tree that is held
abbrev pub held : Held → Tree
held (Given tree) = tree.now
held (Decoded tree) = tree

-- a tree with another's type and rows, which are read where they stand
pub record Reads (tree read : Tree) : Type 0 where
  pub dtype : tree_type read ≡ tree_type tree
  pub rows : trees.rows read ≡ trees.rows tree
  pub readable : is_readable read ≡ true

-- the rows
abbrev pub lent_rows : Lent → List PlainValue
lent_rows (Bits bs valid) = valid_rows valid.now (map truth bs.now)
lent_rows (Ints xs valid) = valid_rows valid.now (map int (wholes_of xs.now))
lent_rows (Bytes rows valid) = valid_rows valid.now (map bytes rows.now)
lent_rows (Same value len) = replicate len (cell_value value)

-- whether there is a validity bit for each row, where there are validity bits
abbrev pub is_whole : Lent → Bool
is_whole (Bits bs valid) = validity_length valid.now (length bs.now)
is_whole (Ints xs valid) = validity_length valid.now (length (wholes_of xs.now))
is_whole (Bytes rows valid) = validity_length valid.now (length rows.now)
is_whole (Same value len) = true
