-- What the number of distinct texts or binaries is estimated from: their lengths with their first four bytes.
use Rattle.std.specs.Prelude.{ℕ, ◌+◌, ◌*◌, ◌/◌, ◌%◌, ◌^◌, ◌==◌, ◌&&◌, nat_eq, Bool, List, [], ◌∷◌, ◌++◌, length, take}
use Rattle.std.specs.Int.{w32, from_le_bytes, to_le_bytes}
use Rattle.std.specs.Cmp.Lexicographic.{pointwise}

-- the first four bytes, zero bytes in place of those that are missing
abbrev pub first_four : List ℕ → List ℕ
first_four bs = take 4 (bs ++ 0 ∷ 0 ∷ 0 ∷ 0 ∷ [])

-- the length and the first four bytes
abbrev pub key_of : List ℕ → ℕ × List ℕ
key_of bs = (length bs, first_four bs)

-- whether two keys are equal
abbrev pub same_key : ℕ × List ℕ → ℕ × List ℕ → Bool
same_key a b = a.0 == b.0 && pointwise nat_eq a.1 b.1

-- a key in one word: the length in its low half
abbrev pub word_of : ℕ × List ℕ → ℕ
word_of k = from_le_bytes w32 k.1 * 2 ^ 32 + k.0

-- the key in a word
abbrev pub key_in : ℕ → ℕ × List ℕ
key_in word = (word % 2 ^ 32, to_le_bytes w32 (word / 2 ^ 32))
