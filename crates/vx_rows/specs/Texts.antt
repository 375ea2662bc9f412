-- Texts and patterns, row by row.
use Rattle.std.specs.Prelude.{Bool, not, if◌then◌else◌, List}
use Rattle.std.specs.Str.{chars, is_utf8}
use Rattle.vx_base.specs.PlainValue.{PlainValue, null, truth, is_null, bytes_or_empty}
use Rattle.vx_rules.specs.declared.options.LikeOptions.{LikeOptions}
use Rattle.vx_rules.specs.Patterns.{PatternItem, matches, liked}
use Rattle.vx_rows.specs.Pairs.{each_pair}

-- whether the bytes of a value are a text; no bytes are one
abbrev pub has_text : PlainValue → Bool
has_text v = is_utf8 (bytes_or_empty v)

-- whether a text matches items, or doesn't where it is negated; null of null
abbrev pub liked_items : LikeOptions → PlainValue → List PatternItem → PlainValue
liked_items options v items =
    if is_null v then null
    else (let found = matches items (chars (bytes_or_empty v)) in truth (if options.negated then not found else found))

-- whether each text matches the pattern of its row
abbrev pub liked_rows : LikeOptions → List PlainValue → List PlainValue → List PlainValue
liked_rows options texts patterns = each_pair (liked options) texts patterns
