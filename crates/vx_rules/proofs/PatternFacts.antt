-- Worked matches of patterns, so that a wrong rule in the definitions does not check.
use Rattle.std.specs.Prelude.{◌≡◌, ℕ, Bool, true, false, List, [], ◌∷◌, map, codes, None, Some, refl}
use Rattle.std.specs.Str.{chars}
use Rattle.vx_base.specs.declared.dtype.Nullability.TheVariants.{NonNullable}
use Rattle.vx_base.specs.declared.error.VortexError.TheVariants.{MismatchedTypes, LengthMismatch}
use Rattle.vx_base.specs.PlainType as types
use Rattle.vx_base.specs.PlainValue.{null, truth, bytes}
use Rattle.vx_model.specs.Column.{Column, column, column_of}
use Rattle.vx_rules.specs.declared.options.LikeOptions.{LikeOptions}
use Rattle.vx_rules.specs.Patterns.{any_run, any_char, exactly, pattern_items, text_matches, like_refusal, like}
use Rattle.vx_rules.proofs.Samples.{all_rows, bools, i32, maybe_bools, maybe_text, sparse_of, text, truths}

-- ---- items of a pattern

-- a%_\%: an a, any characters, any one, and a percent sign
pub items_of_pattern : pattern_items (codes "a%_\\%") ≡ exactly 97 ∷ any_run ∷ any_char ∷ exactly 37 ∷ []
items_of_pattern = refl

-- behind a backslash another one, an underscore and an a stand for themselves, as does a backslash at the end
pub backslashes : (pattern_items (codes "\\\\\\_\\a") ≡ exactly 92 ∷ exactly 95 ∷ exactly 97 ∷ []) × (pattern_items (codes "%\\") ≡ any_run ∷ exactly 92 ∷ [])
backslashes = (refl, refl)

-- ---- matches

abbrev matching : List ℕ → List (List ℕ) → List Bool
matching pattern texts = map (λ t. text_matches t pattern) texts

-- without `%` and `_` a pattern matches itself alone
pub exact_matches :
    (matching (codes "ab") (codes "ab" ∷ codes "abc" ∷ codes "b" ∷ codes "AB" ∷ [] ∷ []) ≡ true ∷ false ∷ false ∷ false ∷ false ∷ [])
    × (matching [] ([] ∷ codes "a" ∷ []) ≡ true ∷ false ∷ [])
unfolding chars
exact_matches = (refl, refl)

-- `%` matches any characters, none too
pub runs :
    (matching (codes "a%") (codes "a" ∷ codes "abc" ∷ codes "ba" ∷ []) ≡ true ∷ true ∷ false ∷ [])
    × (matching (codes "%b%") (codes "b" ∷ codes "abab" ∷ codes "aa" ∷ []) ≡ true ∷ true ∷ false ∷ []) × (matching (codes "%") ([] ∷ codes "ab" ∷ []) ≡ true ∷ true ∷ [])
unfolding chars
runs = (refl, refl, refl)

-- the first `b` behind `%` need not be the one that the rest is behind
pub later_matches : matching (codes "%b_c%c") (codes "abbbcc" ∷ codes "abcbcc" ∷ codes "bacbac" ∷ codes "bacb" ∷ []) ≡ true ∷ false ∷ true ∷ false ∷ []
unfolding chars
later_matches = refl

-- `_` is one character, whether it has one byte, two (é) or three (a euro sign), and not none
pub single_characters :
    (matching (codes "_") (codes "a" ∷ (0xc3 ∷ 0xa9 ∷ []) ∷ (0xe2 ∷ 0x82 ∷ 0xac ∷ []) ∷ [] ∷ codes "ab" ∷ []) ≡ true ∷ true ∷ true ∷ false ∷ false ∷ [])
    × (matching (codes "__") ((0xc3 ∷ 0xa9 ∷ []) ∷ (0xc3 ∷ 0xa9 ∷ 97 ∷ []) ∷ []) ≡ false ∷ true ∷ [])
unfolding chars
single_characters = (refl, refl)

-- `a\%` matches a percent sign, and `a\` a backslash
pub escapes :
    (matching (codes "a\\%") (codes "a%" ∷ codes "ab" ∷ codes "a\\%" ∷ []) ≡ true ∷ false ∷ false ∷ [])
    × (matching (codes "a\\") (codes "a\\" ∷ codes "a" ∷ []) ≡ true ∷ false ∷ []) × (matching (codes "\\\\") (codes "\\" ∷ codes "\\\\" ∷ []) ≡ true ∷ false ∷ [])
unfolding chars
escapes = (refl, refl, refl)

-- ---- like

abbrev plainly : LikeOptions
plainly = record { negated = false }

abbrev negatedly : LikeOptions
negatedly = record { negated = true }

abbrev ab_and_b : Column
ab_and_b = column text (bytes (codes "ab") ∷ bytes (codes "b") ∷ [])

abbrev pattern : List ℕ → Column
pattern p = all_rows text (bytes p) 2

pub likes : (like plainly ab_and_b (pattern (codes "a%")) ≡ bools (truths (true ∷ false ∷ []))) × (like negatedly ab_and_b (pattern (codes "a%")) ≡ bools (truths (false ∷ true ∷ [])))
unfolding chars
likes = (refl, refl)

-- a sparse column of "b" with one "ab", and one of nulls with three words
pub sparse_likes :
    (like plainly (column_of (sparse_of text (1 ∷ []) (bytes (codes "ab") ∷ []) (bytes (codes "b")) 3)) (all_rows text (bytes (codes "a%")) 3) ≡ bools (truths (false ∷ true ∷ false ∷ [])))
    × (like plainly (column_of (sparse_of maybe_text (1 ∷ 3 ∷ 5 ∷ []) (bytes (codes "world") ∷ bytes (codes "help") ∷ bytes (codes "foo") ∷ []) null 8)) (all_rows text (bytes (codes "%o%")) 8)
    ≡ maybe_bools (null ∷ truth true ∷ null ∷ truth false ∷ null ∷ truth true ∷ null ∷ null ∷ []))
unfolding chars
sparse_likes = (refl, refl)

-- a pattern for each row, and null of a null pattern, negated or not
pub patterns_by_row :
    let patterns : Column = column maybe_text (bytes (codes "_b") ∷ null ∷ []) in
    (like plainly ab_and_b patterns ≡ maybe_bools (truth true ∷ null ∷ [])) × (like negatedly ab_and_b patterns ≡ maybe_bools (truth false ∷ null ∷ []))
unfolding chars
patterns_by_row = (refl, refl)

-- binaries are no texts, neither as rows nor as patterns
pub refused_patterns :
    (like_refusal ab_and_b (pattern []) ≡ None) × (like_refusal ab_and_b (all_rows maybe_text null 2) ≡ None) × (like_refusal ab_and_b (all_rows text (bytes []) 3) ≡ Some LengthMismatch)
    × (like_refusal ab_and_b (all_rows (types.binary NonNullable) (bytes []) 3) ≡ Some MismatchedTypes) × (like_refusal (column (types.binary NonNullable) []) (column text []) ≡ Some MismatchedTypes)
    × (like_refusal (column i32 []) (column text []) ≡ Some MismatchedTypes)
refused_patterns = (refl, refl, refl, refl, refl, refl)
