-- `like`: texts that match patterns, by characters.
use Rattle.std.specs.Prelude.{ℕ, Bool, true, false, not, ◌&&◌, ◌||◌, ◌==◌, if◌then◌else◌, List, [], ◌∷◌, map, length, zip, Option, None}
use Rattle.std.specs.List.{list_any}
use Rattle.std.specs.Str.{chars}
use Rattle.vx_base.specs.declared.error.VortexError.{VortexError}
use Rattle.vx_base.specs.declared.error.VortexError.TheVariants.{MismatchedTypes, LengthMismatch}
use Rattle.vx_base.specs.Answers.{unless}
use Rattle.vx_base.specs.PlainType.{is_text}
use Rattle.vx_base.specs.PlainValue.{PlainValue, null, truth, is_null, bytes_or_empty}
use Rattle.vx_model.specs.Column.{Column, column}
use Rattle.vx_rules.specs.declared.options.LikeOptions.{LikeOptions}
use Rattle.vx_rules.specs.Comparisons.{truths_of}

-- ---- patterns

-- what an item of a pattern stands for: any characters, any one character, or this character
pub data PatternItem : Type 0 where
  any_run : PatternItem
  any_char : PatternItem
  exactly : ℕ → PatternItem

-- the item that a character is without a backslash before it: `%` any characters, `_` any one, another one itself
abbrev pub item_of : ℕ → PatternItem
item_of c = if c == 0x25 then any_run else (if c == 0x5f then any_char else exactly c)

-- the items of a pattern: behind a backslash a character stands for itself, as does a backslash at the end
abbrev pub pattern_items : List ℕ → List PatternItem
pattern_items [] = []
pattern_items (c ∷ []) = item_of c ∷ []
pattern_items (c ∷ d ∷ cs) = if c == 0x5c then exactly d ∷ pattern_items cs else item_of c ∷ pattern_items (d ∷ cs)

-- ---- matches

-- a list, and what is left of it from each further place on
abbrev pub suffixes : {A : Type 0} → List A → List (List A)
suffixes [] = [] ∷ []
suffixes (x ∷ xs) = (x ∷ xs) ∷ suffixes xs

-- whether characters match items: of `%` some suffix has to match the items behind it, and any other item takes one character
abbrev pub matches : List PatternItem → List ℕ → Bool
matches [] [] = true
matches [] (c ∷ cs) = false
matches (any_run ∷ items) cs = list_any (matches items) (suffixes cs)
matches (any_char ∷ items) [] = false
matches (any_char ∷ items) (c ∷ cs) = matches items cs
matches (exactly d ∷ items) [] = false
matches (exactly d ∷ items) (c ∷ cs) = c == d && matches items cs

-- whether the bytes of a text match those of a pattern, character by character and not byte by byte
abbrev pub text_matches : List ℕ → List ℕ → Bool
text_matches text pattern = matches (pattern_items (chars pattern)) (chars text)

-- ---- like

-- whether a text matches a pattern, or doesn't where it is negated; null where either is null
abbrev pub liked : LikeOptions → PlainValue → PlainValue → PlainValue
liked options v pattern =
    if is_null v || is_null pattern then null
    else (let found = text_matches (bytes_or_empty v) (bytes_or_empty pattern) in truth (if options.negated then not found else found))

-- why patterns are refused: MismatchedTypes unless rows and patterns are texts, then LengthMismatch unless there are as many of each
abbrev pub like_refusal : Column → Column → Option VortexError
like_refusal c patterns =
    unless (is_text c.dtype && is_text patterns.dtype) MismatchedTypes (unless (length c.values == length patterns.values) LengthMismatch None)

-- like: row by row
abbrev pub like : LikeOptions → Column → Column → Column
like options c patterns = column (truths_of c.dtype patterns.dtype) (map (λ p. liked options p.0 p.1) (zip c.values patterns.values))
