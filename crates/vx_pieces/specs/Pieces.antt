-- Rows chosen by position: ranges of rows, each repeated as a block, and copies of a filling.
use Rattle.std.specs.Prelude.{◌≡◌, ℕ, ◌*◌, ◌-◌, Bool, true, List, map, length, replicate, sum_by}
use Rattle.std.specs.List.{flat_map, list_all}
use Rattle.vx_base.specs.Masks.{rows_between, is_part}
use Rattle.vx_base.specs.PlainValue.{PlainValue}
use Rattle.vx_model.specs.Nested.{concatenated}
use Rattle.vx_pieces.specs.declared.piece.Piece.{Piece}
use Rattle.vx_pieces.specs.declared.piece.Piece.TheVariants.{Rows, Filled}

-- `times` copies of a block, one after another
abbrev pub repeated : {A : Type 0} → ℕ → List A → List A
repeated times block = concatenated (replicate times block)

-- the items that a piece gives: the rows `start` to `end - 1` as a block, `times` times; or `count` copies of the filling
abbrev pub piece_items : {A : Type 0} → A → List A → Piece → List A
piece_items item xs (Rows start end times) = repeated times (rows_between xs start end)
piece_items item xs (Filled count) = replicate count item

-- the items that pieces give, one piece after another
abbrev pub pieced : {A : Type 0} → A → List Piece → List A → List A
pieced item pieces xs = flat_map (piece_items item xs) pieces

-- the number of rows that a piece gives
abbrev pub piece_count : Piece → ℕ
piece_count (Rows start end times) = times * (end - start)
piece_count (Filled count) = count

-- the number of rows that pieces give
abbrev pub pieces_count : List Piece → ℕ
pieces_count pieces = sum_by piece_count pieces

-- whether a piece is in bounds of `len` rows: start ≤ end ≤ len
abbrev pub is_piece : ℕ → Piece → Bool
is_piece len (Rows start end times) = is_part len start end
is_piece len (Filled count) = true

-- whether each piece is in bounds of `len` rows
abbrev pub are_pieces : ℕ → List Piece → Bool
are_pieces len pieces = list_all (is_piece len) pieces

-- what a piece of lists is for their elements, one list after another: row i begins at element `begin i`, and a filling
-- has `size` elements
abbrev pub inner_piece : (ℕ → ℕ) → ℕ → Piece → Piece
inner_piece begin size (Rows start end times) = Rows (begin start) (begin end) times
inner_piece begin size (Filled count) = Filled (count * size)

-- what pieces of lists are for their elements
abbrev pub inner_pieces : (ℕ → ℕ) → ℕ → List Piece → List Piece
inner_pieces begin size pieces = map (inner_piece begin size) pieces

-- a piece of equal rows, of which the column has one alone
abbrev pub in_one_row : Piece → Piece
in_one_row (Rows start end times) = Rows 0 1 (times * (end - start))
in_one_row (Filled count) = Filled count

-- pieces are in bounds of `values`, and with `item` as the filling they give exactly `rows`
pub record Gives (item : PlainValue) (pieces : List Piece) (values rows : List PlainValue) : Type 0 where
  pub gives : pieced item pieces values ≡ rows
  pub within : are_pieces (length values) pieces ≡ true
