-- The plain tree of the rows that pieces give.
use Rattle.std.specs.Prelude.{Bool, true, false, List}
use Rattle.vx_base.specs.Defaults.{null_or_default}
use Rattle.vx_base.specs.PlainType.{PlainType, structure, fixed_size_list}
use Rattle.vx_model.specs.Plain.{plain_of}
use Rattle.vx_model.specs.Rows.{rows}
use Rattle.vx_model.specs.Tree.{Tree}
use Rattle.vx_model.specs.TreeType.{tree_type}
use Rattle.vx_pieces.specs.declared.piece.Piece.{Piece}
use Rattle.vx_pieces.specs.Pieces.{pieced}

-- a filled row is null, or the default where the type isn't nullable
abbrev pub plain_pieced : List Piece → Tree → Tree
plain_pieced pieces t = plain_of (tree_type t) (pieced (null_or_default (tree_type t)) pieces (rows t))

-- whether a null row of a type has rows within: of fields, or of the elements of a list of one size
abbrev pub has_rows_within : PlainType → Bool
has_rows_within (structure fs n) = true
has_rows_within (fixed_size_list t size n) = true
has_rows_within _ = false
