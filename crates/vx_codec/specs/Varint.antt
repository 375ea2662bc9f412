-- Varints: base-128 numbers, as Protocol Buffers have them, in their shortest form.
use Rattle.std.specs.Prelude.{ℕ, zero, suc, ◌+◌, ◌-◌, ◌*◌, ◌/◌, ◌%◌, ◌^◌, ◌<◌, Bool, List, [], ◌∷◌, Some, None, nat_lt, ◌==◌, if◌then◌else◌}
use Rattle.vx_codec.specs.FixedWidth.{byte_at}
use Rattle.vx_codec.specs.Format.{◌>>=◌, Parse, Format, tested}

-- groups of seven bits, the low ones first, a byte each; every byte but the last has its top bit set
abbrev pub groups : ℕ → ℕ → List ℕ
groups zero n = []
groups (suc k) n = if nat_lt n 128 then n ∷ [] else ((n % 128) + 128) ∷ groups k (n / 128)

-- reads a number of at most k groups; refused where the last of several groups is 0, since then a shorter form exists
abbrev pub groups_at : ℕ → Parse ℕ
groups_at zero bytes = None
groups_at (suc k) bytes =
    byte_at bytes >>= λ b.
    (if nat_lt b.0 128 then Some b else (groups_at k b.1 >>= λ h. (if h.0 == 0 then None else Some ((b.0 - 128) + 128 * h.0, h.1))))

-- numbers of one to k + 1 groups
abbrev pub grouped : ℕ → Format ℕ
grouped k = record { spell = groups (suc k); parse = groups_at (suc k); Fits = λ n. n < 128 ^ suc k }

-- whether a number is below 2^64
abbrev pub is_below_64 : ℕ → Bool
is_below_64 n = nat_lt n (2 ^ 64)

-- a number below 2^64 as a varint, in its shortest form alone: at most ten bytes
abbrev pub varint : Format ℕ
varint = tested is_below_64 (grouped 9)
