-- Worked values of joined texts, counted by hand, so that a wrong rule in the definitions does not check.
use Rattle.std.specs.Prelude.{◌≡◌, [], ◌∷◌, map, true, false, Some, None, codes, pos, refl}
use Rattle.vx_base.specs.declared.ptype.PType.TheVariants.{U64}
use Rattle.vx_base.specs.declared.dtype.Nullability.TheVariants.{NonNullable, Nullable}
use Rattle.vx_base.specs.Packed.{bytes_in}
use Rattle.vx_base.specs.PlainType as types
use Rattle.vx_base.specs.PlainValue.{null, int, bytes}
use Rattle.vx_model.specs.Column.{Column, column, column_of}
use Rattle.vx_model.specs.Plain.{plain}
use Rattle.vx_model.specs.Site.{fresh}
use Rattle.vx_model.specs.Size.{size}
use Rattle.vx_model.specs.Tree.{Tree, sequence, var_bin}
use Rattle.vx_scheme.specs.Meaning.{parts}
use Rattle.vx_schemes.specs.Widths.{first_least, widths_of}
use Rattle.vx_compressor.specs.Cascade.{leaf_tree}
use Rattle.vx_examples.specs.JoinedTexts.{joined_texts, with_joined_texts}

-- a text, a null, an empty text and one more
abbrev few_texts : Column
few_texts = column (types.utf8 Nullable) (bytes (codes "ab") ∷ null ∷ bytes [] ∷ bytes (codes "cde") ∷ [])

abbrev their_offsets : Column
their_offsets = column (types.primitive U64 NonNullable) (map (λ n. int (pos n)) (0 ∷ 2 ∷ 2 ∷ 2 ∷ 5 ∷ []))

-- a null has no byte, and the part no null
pub joined_texts-part : joined_texts.splits few_texts fresh ≡ parts (their_offsets ∷ [])
joined_texts-part = refl

-- over the plain tree of that part stand five bytes and the validity of the texts, and it has the rows
abbrev made : Tree
made = joined_texts.joined few_texts fresh (plain their_offsets ∷ [])

pub joined_texts-joined : (made ≡ var_bin (plain their_offsets) (codes "abcde") (Some (true ∷ false ∷ true ∷ true ∷ [])) (types.utf8 Nullable)) × (column_of made ≡ few_texts)
joined_texts-joined = (refl, refl)

-- eight texts of a letter, and eight of twelve
abbrev letters : Column
letters = column (types.utf8 NonNullable) (map (λ n. bytes (n ∷ [])) (codes "abcdefgh"))

abbrev dozens : Column
dozens = column (types.utf8 NonNullable) (map (λ n. bytes (n ∷ codes " dozen byte")) (codes "abcdefgh"))

abbrev tree_by : Column → Tree
tree_by c = leaf_tree (record { schemes = with_joined_texts; words = 0 ∷ [] }) c fresh

-- nine offsets of 8 bytes and 8 bytes more, for 8 views of 16; of the whole column the offsets are a sequence, and take none
pub letters_are_joined : tree_by letters ≡ var_bin (sequence U64 NonNullable (pos 0) (pos 1) 9) (codes "abcdefgh") None (types.utf8 NonNullable)
unfolding first_least widths_of bytes_in lib.Count.count_leading_zeros
letters_are_joined = refl

-- the trial is without sequences: 72 and 96 bytes are no fewer than 128
pub dozens_stay_plain : tree_by dozens ≡ plain dozens
unfolding first_least widths_of bytes_in lib.Count.count_leading_zeros
dozens_stay_plain = refl

pub sizes : (size (tree_by letters) ≡ 8) × (size (plain letters) ≡ 128) × (size (plain dozens) ≡ 128)
unfolding first_least widths_of bytes_in lib.Count.count_leading_zeros
sizes = (refl, refl, refl)
