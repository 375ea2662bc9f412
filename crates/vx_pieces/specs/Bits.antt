-- Validity bits of pieces, and pieces that are a whole column.
use Rattle.std.specs.Prelude.{ℕ, Bool, true, false, ◌&&◌, ◌==◌, List, [], ◌∷◌, Some, None, replicate}
use Rattle.std.specs.List.{list_any}
use Rattle.vx_model.specs.Refusals.{kept}
use Rattle.vx_model.specs.Tree.{Validity}
use Rattle.vx_pieces.specs.declared.piece.Piece.{Piece}
use Rattle.vx_pieces.specs.declared.piece.Piece.TheVariants.{Rows, Filled}
use Rattle.vx_pieces.specs.Pieces.{pieced}

-- a bit for each of `len` rows, also where every row is valid
abbrev pub bits_of : Validity → ℕ → List Bool
bits_of None len = replicate len true
bits_of (Some bits) len = bits

-- the validity of the rows that pieces give, where `filling` says whether a filled row is valid
abbrev pub pieced_validity : Bool → List Piece → Validity → ℕ → Validity
pieced_validity filling pieces valid len = kept (Some (pieced filling pieces (bits_of valid len)))

-- whether a piece is of fillings
abbrev pub is_filled : Piece → Bool
is_filled (Rows start end times) = false
is_filled (Filled count) = true

-- whether some piece is of fillings
abbrev pub have_filled : List Piece → Bool
have_filled pieces = list_any is_filled pieces

-- whether a piece is a column of `len` rows, once
abbrev pub is_whole : ℕ → Piece → Bool
is_whole len (Rows start end times) = start == 0 && (end == len && times == 1)
is_whole len (Filled count) = false

-- whether pieces are a column of `len` rows, once
abbrev pub are_whole : ℕ → List Piece → Bool
are_whole len (piece ∷ []) = is_whole len piece
are_whole len _ = false
