-- Truth values as bits, eight to a byte.
use Rattle.std.specs.Prelude.{◌≡◌, ℕ, zero, suc, ◌+◌, ◌-◌, ◌*◌, ◌/◌, ◌%◌, ◌^◌, min, Bool, List, [], ◌∷◌, ◌++◌, length, take, drop, Some, None, nat_lt, ◌==◌, if◌then◌else◌}
use Rattle.vx_codec.specs.FixedWidth.{byte_at}
use Rattle.vx_codec.specs.Format.{◌>>=◌, Parse, Format}

-- the number with these bits, the lowest first
abbrev pub bits_number : List Bool → ℕ
bits_number [] = 0
bits_number (b ∷ bs) = (if b then 1 else 0) + 2 * bits_number bs

-- the low bits of a number, the lowest first
abbrev pub number_bits : ℕ → ℕ → List Bool
number_bits zero n = []
number_bits (suc k) n = (n % 2 == 1) ∷ number_bits k (n / 2)

-- truth values packed into a given number of bytes, eight to a byte, the first in the lowest bit
abbrev pub bit_bytes : ℕ → List Bool → List ℕ
bit_bytes zero bs = []
bit_bytes (suc k) bs = bits_number (take 8 bs) ∷ bit_bytes k (drop 8 bs)

-- reads n bits from k bytes; every bit of the last byte beyond the n-th has to be 0
abbrev pub bits_at : ℕ → ℕ → Parse (List Bool)
bits_at zero n bytes = Some ([], bytes)
bits_at (suc k) n bytes =
    byte_at bytes >>= λ b.
    (if nat_lt b.0 (2 ^ min n 8) then (bits_at k (n - 8) b.1 >>= λ bs. Some (number_bits (min n 8) b.0 ++ bs.0, bs.1)) else None)

-- the bytes that n bits take: n / 8, rounded up
abbrev pub bytes_for : ℕ → ℕ
bytes_for n = (n + 7) / 8

-- n truth values, eight to a byte, the first in the lowest bit, zero-padded to whole bytes
abbrev pub bits : ℕ → Format (List Bool)
bits n = record { spell = bit_bytes (bytes_for n); parse = bits_at (bytes_for n) n; Fits = λ bs. length bs ≡ n }
