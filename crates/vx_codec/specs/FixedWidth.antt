-- Bytes, and little-endian numbers of a fixed width.
use Rattle.std.specs.Prelude.{◌≡◌, ℕ, zero, suc, ◌+◌, ◌*◌, ◌/◌, ◌%◌, ◌^◌, ◌<◌, List, [], ◌∷◌, length, take, drop, Option, Some, None, nat_lt, if◌then◌else◌}
use Rattle.vx_codec.specs.Format.{◌>>=◌, Parse, Format, mapped_at}

-- the first byte and the bytes after it; None where there is none, or it is 256 or more
abbrev pub byte_at : Parse ℕ
byte_at [] = None
byte_at (b ∷ bytes) = if nat_lt b 256 then Some (b, bytes) else None

-- a number below 256, as itself
abbrev pub byte : Format ℕ
byte = record { spell = λ b. b ∷ []; parse = byte_at; Fits = λ b. b < 256 }

-- the low k bytes of a number, the lowest first
abbrev pub little_endian : ℕ → ℕ → List ℕ
little_endian zero n = []
little_endian (suc k) n = n % 256 ∷ little_endian k (n / 256)

-- the number in the first k bytes, the lowest first, and the bytes after them; None where fewer are left
abbrev pub little_endian_at : ℕ → Parse ℕ
little_endian_at zero bytes = Some (0, bytes)
little_endian_at (suc k) bytes = byte_at bytes >>= λ b. (little_endian_at k b.1 >>= λ h. Some (b.0 + 256 * h.0, h.1))

-- a number in k bytes, little-endian
abbrev pub fixed_width : ℕ → Format ℕ
fixed_width k = record { spell = little_endian k; parse = little_endian_at k; Fits = λ n. n < 256 ^ k }

-- the first n bytes and the bytes after them; None where fewer are left
abbrev pub raw_at : ℕ → Parse (List ℕ)
raw_at n bytes = if nat_lt (length bytes) n then None else Some (take n bytes, drop n bytes)

-- n bytes as they stand
abbrev pub raw : ℕ → Format (List ℕ)
raw n = record { spell = λ b. b; parse = raw_at n; Fits = λ b. length b ≡ n }

-- one of an enum, by the number that it has in one byte
abbrev pub enumerated : {A : Type 0} → (A → ℕ) → (ℕ → Option A) → Format A
enumerated number from = record { spell = λ a. number a ∷ []; parse = mapped_at from byte_at; Fits = λ _. Unit {0} }
