-- Rows as cells: of an integer type an integer or null, and of encoded integers a word of 64 bits.
use Rattle.std.proofs.Common.{◌≡◌, ◌<◌, ℕ, ℤ, length, true, refl, ap}
use Rattle.std.specs.Prelude.{IsTrue}
use Rattle.vx_base.specs.IntegersIn.{integer_in}
use Rattle.vx_base.specs.declared.dtype.Nullability.TheVariants.{Nullable}
use Rattle.vx_base.specs.declared.ptype.PType.TheVariants.{U64}
use Rattle.vx_base.specs.Integers.{lies_in}
use Rattle.vx_base.specs.PlainScalar.{PlainScalar, fits}
use Rattle.vx_base.specs.PlainType.{PlainType, is_integer}
use Rattle.vx_base.specs.PlainType as types
use Rattle.vx_base.specs.PlainValue.{PlainValue, null, int, cell}
use Rattle.vx_base.proofs.CellLemmas.{cell-integer_in}
use Rattle.vx_base.proofs.IntegerLemmas.{is_unsigned-is_integer}
use Rattle.vx_model.specs.Rows.{rows, row_at, index_of}
use Rattle.vx_model.specs.Tree.{Tree, frame_of_reference, zig_zag}
use Rattle.vx_model.specs.TreeType.{tree_type}
use Rattle.vx_model.specs.WellFormed.{WellFormed}
use Rattle.vx_model.proofs.FrameOfReferenceLemmas.{row_fits, difference-word}
use Rattle.vx_model.proofs.ZigZagLemmas.{encoded-word}

pub cell-row_at : (t : Tree) (i : ℕ) → WellFormed t → IsTrue (is_integer (tree_type t)) → i < length (rows t) → cell (integer_in (row_at (rows t) i)) ≡ row_at (rows t) i
cell-row_at t i w h l = cell-integer_in (tree_type t) (row_at (rows t) i) h (row_fits t i w l)

pub index-integer_in : (v : PlainValue) → index_of (cell (integer_in v)) ≡ index_of v
index-integer_in (int z) = refl
index-integer_in v = refl

-- null, or an integer of 64 bits
abbrev pub IsWord : PlainValue → Type 0
IsWord v = IsTrue (fits (types.primitive U64 Nullable) v)

-- a value of an integer type whose integer, if it has one, is a word
word_where : (t : PlainType) (v : PlainValue) → is_integer t ≡ true → fits t v ≡ true → ((z : ℤ) → v ≡ int z → lies_in U64 z ≡ true) → IsWord v
word_where t null e h f = refl
word_where t (int z) e h f = f z refl
word_where (types.primitive p n) v e h f = absurd cc
word_where t v e h f = absurd cc

pub word-difference : (encoded : Tree) (reference : PlainScalar) (i : ℕ) → WellFormed (frame_of_reference encoded reference) → i < length (rows encoded) → IsWord (row_at (rows encoded) i)
word-difference encoded reference i w l = word_where (tree_type encoded) (row_at (rows encoded) i) (ap is_integer w.1.encoded_type) (row_fits encoded i w.0 l) (λ z e. difference-word encoded reference i z w l e)

pub word-encoded : (encoded : Tree) (i : ℕ) → WellFormed (zig_zag encoded) → i < length (rows encoded) → IsWord (row_at (rows encoded) i)
word-encoded encoded i w l = word_where (tree_type encoded) (row_at (rows encoded) i) (is_unsigned-is_integer (tree_type encoded) w.1.unsigned) (row_fits encoded i w.0 l) (λ z e. encoded-word encoded i z w l e)
