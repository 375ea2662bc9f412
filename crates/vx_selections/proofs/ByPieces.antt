-- Columns that pieces give, for slices and filters.
use Rattle.std.proofs.Common.{◌≡◌, ℕ, true, List, [], ◌∷◌, refl, subst, ◌∙◌}
use Rattle.std.specs.Prelude.{Result}
use Rattle.std.proofs.lemmas.Bool.{and_from}
use Rattle.std.proofs.lemmas.List.{append-nil}
use Rattle.vx_base.specs.Answers.{OrMemory}
use Rattle.vx_base.specs.declared.error.VortexError.{VortexError}
use Rattle.vx_base.specs.Masks.{is_part, rows_between}
use Rattle.vx_model.specs.Column.{Column, column_of}
use Rattle.vx_model.specs.Tree.{Tree}
use Rattle.vx_pieces.specs.declared.piece.Piece.TheVariants.{Rows}
use Rattle.vx_pieces.specs.Pieces.{are_pieces, pieced}

-- one range is one piece
pub one_piece : {A : Type 0} (item : A) (start end : ℕ) (xs : List A) → pieced item (Rows start end 1 ∷ []) xs ≡ rows_between xs start end
one_piece item start end xs = append-nil _ ∙ append-nil (rows_between xs start end)

pub is_one_piece : (len start end : ℕ) → is_part len start end ≡ true → are_pieces len (Rows start end 1 ∷ []) ≡ true
is_one_piece len start end h = and_from _ _ h refl

-- an answer with other words for its column
pub along : (r : Result Tree VortexError) (c d : Column) → c ≡ d → OrMemory r (λ out. column_of out ≡ c) → OrMemory r (λ out. column_of out ≡ d)
along r c d e h = subst (λ k. OrMemory r (λ out. column_of out ≡ k)) e h
