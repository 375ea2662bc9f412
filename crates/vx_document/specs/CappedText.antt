-- A text with a limit: Some text, or None once it would have been longer than the limit.
use Rattle.std.specs.Prelude.{ℕ, ◌+◌, ◌^◌, List, ◌++◌, length, nat_le, Bool, false, if◌then◌else◌, Option, Some, None}

-- the most bytes of a text of documents: as many as the program reads, so that what it writes can be read again
abbrev pub most_bytes : ℕ
most_bytes = 2 ^ 26

-- whether a number of bytes more are within the limit
abbrev pub has_room : Option (List ℕ) → ℕ → Bool
has_room None count = false
has_room (Some text) count = nat_le (length text + count) most_bytes

-- the text and a piece behind it, where both are within the limit
abbrev pub put : Option (List ℕ) → List ℕ → Option (List ℕ)
put None piece = None
put (Some text) piece = if nat_le (length text + length piece) most_bytes then Some (text ++ piece) else None
