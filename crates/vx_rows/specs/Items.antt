-- The items of a pattern and the characters of a text, and a piece of items that each take one character.
use Rattle.std.specs.Prelude.{ℕ, Bool, true, false, ◌&&◌, ◌==◌, if◌then◌else◌, List, [], ◌∷◌, Option, None, Some}
use Rattle.vx_rules.specs.Patterns.{PatternItem, any_run, any_char, exactly, pattern_items}
use Rattle.vx_rows.specs.declared.pattern.Item.{Item}
use Rattle.vx_rows.specs.declared.pattern.Item.TheVariants.{AnyRun, AnyChar, Exactly}

-- an item as plain data
abbrev pub plain_item : Item → PatternItem
plain_item AnyRun = any_run
plain_item AnyChar = any_char
plain_item (Exactly c) = exactly c

-- the items of the rest of a pattern, which may be behind a backslash
abbrev pub left_items : Bool → List ℕ → List PatternItem
left_items is_escaped cs = if is_escaped then pattern_items (0x5c ∷ cs) else pattern_items cs

-- whether there is a first character, which passes
abbrev pub first_passes : (ℕ → Bool) → List ℕ → Bool
first_passes passes [] = false
first_passes passes (c ∷ cs) = passes c

-- whether a character is the wanted one, or any is
abbrev pub fits_char : Option ℕ → ℕ → Bool
fits_char None c = true
fits_char (Some d) c = c == d

-- whether an item takes one character, whichever it is
abbrev pub takes_one : PatternItem → Bool
takes_one any_run = false
takes_one any_char = true
takes_one (exactly d) = true

-- whether an item takes one character, and this one
abbrev pub takes : PatternItem → ℕ → Bool
takes any_run c = false
takes any_char c = true
takes (exactly d) c = c == d

-- whether the items take the first characters, one each
abbrev pub starts : List PatternItem → List ℕ → Bool
starts [] cs = true
starts (item ∷ items) [] = false
starts (item ∷ items) (c ∷ cs) = takes item c && starts items cs
