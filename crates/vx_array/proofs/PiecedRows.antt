-- The rows that pieces give of a tree: they fit its type, their number, and their validity.
use Rattle.std.proofs.Common.{◌≡◌, ◌∙◌, ℕ, List, length, refl, sym, ap, Bool, true, Some, None}
use Rattle.std.specs.Prelude.{IfSome, IsTrue, not}
use Rattle.std.specs.List.{list_all}
use Rattle.vx_base.specs.declared.dtype.Nullability.{Nullability}
use Rattle.vx_base.specs.declared.dtype.Nullability.TheVariants.{NonNullable, Nullable}
use Rattle.vx_base.specs.Defaults.{null_or_default}
use Rattle.vx_base.specs.PlainScalar.{fits}
use Rattle.vx_base.specs.PlainType.{PlainType, is_nullable}
use Rattle.vx_base.specs.PlainType as types
use Rattle.vx_base.specs.PlainValue.{PlainValue, is_null}
use Rattle.vx_base.proofs.FitLemmas.{fits-null_or_default}
use Rattle.vx_model.specs.Plain.{validity}
use Rattle.vx_model.specs.Rows.{rows}
use Rattle.vx_model.specs.Tree.{Tree, Validity, nulls}
use Rattle.vx_model.specs.TreeType.{tree_type}
use Rattle.vx_model.specs.WellFormed.{WellFormed, IsValidityOf}
use Rattle.vx_model.proofs.MadeLemmas.{rows_fit}
use Rattle.vx_pieces.specs.declared.piece.Piece.{Piece}
use Rattle.vx_pieces.specs.Bits.{pieced_validity}
use Rattle.vx_pieces.specs.Pieces.{pieced, are_pieces, pieces_count}
use Rattle.vx_pieces.proofs.BitLemmas.{validity-pieced}
use Rattle.vx_pieces.proofs.PieceLemmas.{all-pieced, length-pieced}
use Rattle.vx_array.specs.PlainPieced.{plain_pieced}

-- a filled row is valid where the type isn't nullable
pub filling-valid : (t : PlainType) → not (is_null (null_or_default t)) ≡ not (is_nullable t)
filling-valid types.null_type = refl
filling-valid (types.boolean NonNullable) = refl
filling-valid (types.boolean Nullable) = refl
filling-valid (types.primitive p NonNullable) = refl
filling-valid (types.primitive p Nullable) = refl
filling-valid (types.utf8 NonNullable) = refl
filling-valid (types.utf8 Nullable) = refl
filling-valid (types.binary NonNullable) = refl
filling-valid (types.binary Nullable) = refl
filling-valid (types.timestamp k NonNullable) = refl
filling-valid (types.timestamp k Nullable) = refl
filling-valid (types.structure fs NonNullable) = refl
filling-valid (types.structure fs Nullable) = refl
filling-valid (types.list t NonNullable) = refl
filling-valid (types.list t Nullable) = refl
filling-valid (types.fixed_size_list t size NonNullable) = refl
filling-valid (types.fixed_size_list t size Nullable) = refl

-- pieces of a column are in bounds of its bits
pub bits_bound : (ps : List Piece) (valid : Validity) (len : ℕ) (n : Nullability) → IsValidityOf valid len n → are_pieces len ps ≡ true → IfSome valid (λ bits. IsTrue (are_pieces (length bits) ps))
bits_bound ps None len n h own = tt
bits_bound ps (Some bits) len n h own = ap (λ k. are_pieces k ps) h.0 ∙ own

module _ (t : Tree) (w : WellFormed t) (ps : List Piece) (own : are_pieces (length (rows t)) ps ≡ true) where
  -- the rows that they give
  abbrev pub given_rows : List PlainValue
  given_rows = pieced (null_or_default (tree_type t)) ps (rows t)

  pub given_fit : list_all (fits (tree_type t)) given_rows ≡ true
  given_fit = all-pieced (fits (tree_type t)) (null_or_default (tree_type t)) ps (rows t) (fits-null_or_default (tree_type t)) (rows_fit t w)

  pub given_count : pieces_count ps ≡ length given_rows
  given_count = sym (length-pieced (null_or_default (tree_type t)) ps (rows t) own)

  -- from the validity of the tree
  pub given_bits : (valid : Validity) (len : ℕ) (filling : Bool) → validity (rows t) ≡ valid → length (rows t) ≡ len → filling ≡ not (is_nullable (tree_type t)) → pieced_validity filling ps valid len ≡ validity given_rows
  given_bits valid len filling v l f =
      (λ i. pieced_validity filling ps (sym v i) (sym l i)) ∙ validity-pieced filling ps (null_or_default (tree_type t)) (rows t) (filling-valid (tree_type t) ∙ sym f)

pub nulls-pieced : (ps : List Piece) (len : ℕ) → are_pieces (length (rows (nulls len))) ps ≡ true → nulls (pieces_count ps) ≡ plain_pieced ps (nulls len)
nulls-pieced ps len own = ap nulls (sym (length-pieced (null_or_default types.null_type) ps (rows (nulls len)) own))
