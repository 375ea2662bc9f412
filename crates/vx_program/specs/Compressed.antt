-- A compressed column: the bytes of its plain tree, and its tree, which has the column.
use Rattle.std.specs.Prelude.{◌≡◌, ℕ, List}
use Rattle.vx_model.specs.Column.{Column, column_of}
use Rattle.vx_model.specs.Plain.{plain}
use Rattle.vx_model.specs.Size.{nbytes}
use Rattle.vx_btrblocks.specs.Shipped.{shipped_tree}
use Rattle.vx_program.specs.declared.answer.compressed.Compressed.{Compressed}

-- what compressing a column with these sample words answers
pub record IsCompressed (words : List ℕ) (c : Column) (made : Compressed) : Type 0 where
  pub plain : made.plain ≡ nbytes (plain c)
  pub tree : made.tree ≡ shipped_tree words c
  pub column : column_of made.tree ≡ c
