-- What a tree decodes to.
use Rattle.std.specs.Prelude.{map}
use Rattle.vx_base.specs.Defaults.{default_of, or_default}
use Rattle.vx_model.specs.Plain.{validity}
use Rattle.vx_model.specs.Rows.{rows}
use Rattle.vx_model.specs.Tree.{Tree}
use Rattle.vx_model.specs.TreeType.{tree_type}
use Rattle.vx_values.specs.declared.decoded.Decoded.{Decoded}
use Rattle.vx_values.specs.ValuesOf.{kind_of, AreRows}

-- values of the tree's type, its default beneath nulls, and validity bits where some row is null
abbrev pub IsDecoded : Tree → Decoded → Type 0
IsDecoded tree = AreRows (kind_of (tree_type tree)) (map (or_default (default_of (tree_type tree))) (rows tree)) (validity (rows tree))
