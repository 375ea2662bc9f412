-- Worked values of the schemes of texts and binaries, counted by hand, so that a wrong rule in the definitions does not check.
use Rattle.std.specs.Prelude.{◌≡◌, ◌++◌, [], ◌∷◌, map, replicate, true, false, Some, codes, pos, refl}
use Rattle.vx_base.specs.declared.ptype.PType.TheVariants.{U8, U16, U32}
use Rattle.vx_base.specs.declared.dtype.Nullability.TheVariants.{NonNullable, Nullable}
use Rattle.vx_base.specs.PlainScalar.{scalar}
use Rattle.vx_base.specs.PlainType as types
use Rattle.vx_base.specs.PlainValue.{null, int, bytes}
use Rattle.vx_model.specs.Column.{Column, column, column_of}
use Rattle.vx_model.specs.Plain.{plain}
use Rattle.vx_model.specs.Size.{size}
use Rattle.vx_model.specs.Tree.{Tree, dict, sparse, var_bin}
use Rattle.vx_scheme.specs.Meaning.{kept}
use Rattle.vx_scheme.specs.Scores.{ratio_of}
use Rattle.vx_scheme.specs.declared.estimate.CompressionEstimate.TheVariants.{Verdict, Deferred}
use Rattle.vx_scheme.specs.declared.estimate.DeferredEstimate.TheVariants.{Sample}
use Rattle.vx_scheme.specs.declared.estimate.EstimateVerdict.TheVariants.{Skip}
use Rattle.vx_schemes_text.specs.Dictionary.Meaning.{tried_or_skipped, dictionary_estimate, dictionary_parts}
use Rattle.vx_schemes_common.specs.Dictionaries.{code_type, dictionary_or_plain}
use Rattle.vx_schemes_text.specs.Dictionary.Tree.{dictionary_values, dictionary_codes}
use Rattle.vx_schemes_text.specs.NullSparse.Meaning.{null_dominated_estimate}
use Rattle.vx_schemes_text.specs.NullSparse.Tree.{value_indices, sparse_texts}
use Rattle.vx_schemes_text.specs.VarBin.Tree.{binary_offsets, binaries_over}

-- ---- dictionaries

-- six rows, three texts
abbrev words : Column
words = column (types.utf8 Nullable) (bytes (codes "pear") ∷ null ∷ bytes (codes "apple") ∷ bytes (codes "pear") ∷ bytes [] ∷ bytes (codes "apple") ∷ [])

-- by first appearance, not in the order of the alphabet; a null has no code, and an empty text has one
pub texts-numbered :
    (dictionary_values words ≡ column (types.utf8 Nullable) (bytes (codes "pear") ∷ bytes (codes "apple") ∷ bytes [] ∷ []))
    × (dictionary_codes words ≡ column (types.primitive U8 Nullable) (int (pos 0) ∷ null ∷ int (pos 1) ∷ int (pos 0) ∷ int (pos 2) ∷ int (pos 1) ∷ []))
texts-numbered = (refl, refl)

abbrev made : Tree
made = dictionary_or_plain words (Some (plain (dictionary_values words), plain (dictionary_codes words)))

-- three values of 16 bytes, six codes of a byte and six bits; and the rows are those of the column
pub texts-back : (made ≡ dict (plain (dictionary_codes words)) (plain (dictionary_values words))) × (size made ≡ 55) × (column_of made ≡ words)
texts-back = (refl, refl, refl)

pub nulls-kept : dictionary_parts (column (types.binary Nullable) (null ∷ null ∷ [])) ≡ kept
nulls-kept = refl

pub code_type-widths : (code_type 1 ≡ U8) × (code_type 256 ≡ U8) × (code_type 257 ≡ U16) × (code_type 65_536 ≡ U16) × (code_type 65_537 ≡ U32)
code_type-widths = (refl, refl, refl, refl, refl)

-- exactly half of the values may be distinct, rounded down
pub half-tried : (tried_or_skipped 4 2 ≡ Deferred Sample) × (tried_or_skipped 4 3 ≡ Verdict Skip) × (tried_or_skipped 5 2 ≡ Deferred Sample) × (tried_or_skipped 5 3 ≡ Verdict Skip) × (tried_or_skipped 0 1 ≡ Verdict Skip)
half-tried = (refl, refl, refl, refl, refl)

-- two texts and the null have three keys, of five values
pub words-skipped : dictionary_estimate words ≡ Verdict Skip
words-skipped = refl

-- ---- sparse texts

-- a text in row 3, and nulls in all others
abbrev one_text : Column
one_text = column (types.utf8 Nullable) (replicate 3 null ++ bytes (codes "abc") ∷ replicate 7 null)

-- ten of eleven rows are null, and then nine of ten, which are not enough; nulls alone have no ratio
pub nulls-dominate :
    (null_dominated_estimate one_text ≡ ratio_of 11 1) × (null_dominated_estimate (column (types.utf8 Nullable) (bytes [] ∷ replicate 9 null)) ≡ Skip)
    × (null_dominated_estimate (column (types.utf8 Nullable) (replicate 11 null)) ≡ Skip)
nulls-dominate = (refl, refl, refl)

abbrev over_null : Tree
over_null = sparse_texts one_text (plain (value_indices one_text))

-- an index of a byte, a text of 16 bytes, and a byte for the fill
pub texts-patched :
    (value_indices one_text ≡ column (types.primitive U8 NonNullable) (int (pos 3) ∷ []))
    × (over_null ≡ sparse 11 0 (plain (value_indices one_text)) (plain (column (types.utf8 Nullable) (bytes (codes "abc") ∷ []))) (scalar (types.utf8 Nullable) null))
    × (size over_null ≡ 18) × (column_of over_null ≡ one_text)
texts-patched = (refl, refl, refl, refl)

-- ---- concatenated binaries

abbrev few_bytes : Column
few_bytes = column (types.binary Nullable) (bytes (1 ∷ []) ∷ bytes (2 ∷ 3 ∷ []) ∷ null ∷ bytes (255 ∷ []) ∷ [])

abbrev joined : Tree
joined = binaries_over few_bytes (plain (binary_offsets few_bytes))

-- five offsets of a byte, four bytes, and a byte of validity; a null has no byte
pub binaries-joined :
    (binary_offsets few_bytes ≡ column (types.primitive U8 NonNullable) (map (λ n. int (pos n)) (0 ∷ 1 ∷ 3 ∷ 3 ∷ 4 ∷ [])))
    × (joined ≡ var_bin (plain (binary_offsets few_bytes)) (1 ∷ 2 ∷ 3 ∷ 255 ∷ []) (Some (true ∷ true ∷ false ∷ true ∷ [])) (types.binary Nullable))
    × (size joined ≡ 10) × (column_of joined ≡ few_bytes)
binaries-joined = (refl, refl, refl, refl)
