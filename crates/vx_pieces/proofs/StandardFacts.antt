-- Worked values, so that a wrong rule in the definitions does not check.
use Rattle.std.specs.Prelude.{◌≡◌, ℕ, ◌*◌, true, false, List, [], ◌∷◌, refl}
use Rattle.vx_pieces.specs.declared.piece.Piece.{Piece}
use Rattle.vx_pieces.specs.declared.piece.Piece.TheVariants.{Rows, Filled}
use Rattle.vx_pieces.specs.Kept.{kept_items}
use Rattle.vx_pieces.specs.Pieces.{piece_items, pieced, pieces_count, is_piece, are_pieces, inner_pieces}

-- rows 1 and 2, three fillings, row 0 twice, rows 2 and 3 twice
abbrev pieces : List Piece
pieces = Rows 1 3 1 ∷ Filled 3 ∷ Rows 0 1 2 ∷ Rows 2 4 2 ∷ []

abbrev items : List ℕ
items = 10 ∷ 11 ∷ 12 ∷ 13 ∷ []

pub pieced-items : pieced 0 pieces items ≡ 11 ∷ 12 ∷ 0 ∷ 0 ∷ 0 ∷ 10 ∷ 10 ∷ 12 ∷ 13 ∷ 12 ∷ 13 ∷ []
pieced-items = refl

pub count-pieces : pieces_count pieces ≡ 11
count-pieces = refl

-- no rows, and rows no times
pub nothing-pieced : (piece_items 0 items (Rows 2 2 5) ≡ []) × (piece_items 0 items (Rows 0 4 0) ≡ []) × (pieced 0 [] items ≡ [])
nothing-pieced = (refl, refl, refl)

-- in bounds of four rows, but not of three; a range that falls is in bounds of none
pub bounds-of-pieces : (are_pieces 4 pieces ≡ true) × (are_pieces 3 pieces ≡ false) × (is_piece 9 (Rows 3 2 1) ≡ false) × (is_piece 0 (Filled 7) ≡ true)
bounds-of-pieces = (refl, refl, refl, refl)

-- of lists with 2 elements each
pub pieces-within : inner_pieces (λ i. i * 2) 2 pieces ≡ Rows 2 6 1 ∷ Filled 6 ∷ Rows 0 2 2 ∷ Rows 4 8 2 ∷ []
pieces-within = refl

pub kept-rows : kept_items (true ∷ false ∷ false ∷ true ∷ []) items ≡ 10 ∷ 13 ∷ []
kept-rows = refl
