-- Words and bytes that are read at once, and one byte after another as their format says.
use Rattle.std.proofs.Common.{◌≡◌, ◌<◌, ◌≤◌, ◌+◌, ◌*◌, ℕ, pos, zero, suc, Bool, true, false, List, [], ◌∷◌, length, map, get_or, take, drop, Some, None, refl, sym, ap, ◌∙◌, arith}
use Rattle.std.proofs.lemmas.Bool.{lt-ltb, ltb-true, ltb-false}
use Rattle.std.proofs.lemmas.List.{length-take-le}
use Rattle.std.specs.Int.{Width, w16, w32, w64, from_le_bytes}
use Rattle.std.specs.Prelude.{nat_lt}
use Rattle.std.proofs.Math.Nat.{add-zero}
use Rattle.vx_base.specs.declared.ptype.PType.TheVariants.{U8}
use Rattle.vx_codec.specs.FixedWidth.{little_endian_at, raw_at}
use Rattle.vx_codec.specs.Format.{made_at}
use Rattle.vx_codec.specs.Lists.{repeated_at}
use Rattle.vx_spelling.specs.Fields.{integer}

-- the number in the first k bytes, the lowest first
abbrev number_of : ℕ → List ℕ → ℕ
number_of zero bytes = 0
number_of (suc k) [] = 0
number_of (suc k) (b ∷ bytes) = b + 256 * number_of k bytes

number_at : (k : ℕ) (bytes : List ℕ) → ((i : ℕ) → get_or bytes i 0 < 256) → k ≤ length bytes → little_endian_at k bytes ≡ Some (number_of k bytes, drop k bytes)
number_at zero bytes small le = refl
number_at (suc k) [] small le = absurd (omega (arith, le))
number_at (suc k) (b ∷ bytes) small le = rw (lt-ltb b 256 (small 0), number_at k bytes (λ i. small (suc i)) (omega (arith, le))) refl

number_front : (k : ℕ) (bytes : List ℕ) → number_of k (take k bytes) ≡ number_of k bytes
number_front zero bytes = refl
number_front (suc k) [] = refl
number_front (suc k) (b ∷ bytes) = ap (λ n. b + 256 * n) (number_front k bytes)

none_behind : (t : Bool) (k b : ℕ) (bytes : List ℕ) → nat_lt b 256 ≡ t → little_endian_at k bytes ≡ None → little_endian_at (suc k) (b ∷ bytes) ≡ None
none_behind true k b bytes h none = rw (h, none) refl
none_behind false k b bytes h none = rw h refl

-- fewer bytes than the word has
pub too_few : (k : ℕ) (bytes : List ℕ) → length bytes < k → little_endian_at k bytes ≡ None
too_few zero bytes lt = absurd (omega (arith, lt))
too_few (suc k) [] lt = refl
too_few (suc k) (b ∷ bytes) lt = none_behind (nat_lt b 256) k b bytes refl (too_few k bytes (omega (arith, lt)))

-- a word of k bytes
abbrev pub IsWord : ℕ → Width → Type 0
IsWord k w = (bytes : List ℕ) → length bytes ≡ k → from_le_bytes w bytes ≡ number_of k bytes

pub two_bytes : IsWord 2 w16
two_bytes (a ∷ b ∷ []) l = omega arith
two_bytes [] l = absurd (omega (arith, l))
two_bytes (a ∷ []) l = absurd (omega (arith, l))
two_bytes (a ∷ b ∷ x ∷ bytes) l = absurd (omega (arith, l))

pub four_bytes : IsWord 4 w32
four_bytes (a ∷ b ∷ c ∷ d ∷ []) l = omega arith
four_bytes [] l = absurd (omega (arith, l))
four_bytes (a ∷ []) l = absurd (omega (arith, l))
four_bytes (a ∷ b ∷ []) l = absurd (omega (arith, l))
four_bytes (a ∷ b ∷ c ∷ []) l = absurd (omega (arith, l))
four_bytes (a ∷ b ∷ c ∷ d ∷ x ∷ bytes) l = absurd (omega (arith, l))

pub eight_bytes : IsWord 8 w64
eight_bytes (a ∷ b ∷ c ∷ d ∷ e ∷ f ∷ g ∷ h ∷ []) l = omega arith
eight_bytes [] l = absurd (omega (arith, l))
eight_bytes (a ∷ []) l = absurd (omega (arith, l))
eight_bytes (a ∷ b ∷ []) l = absurd (omega (arith, l))
eight_bytes (a ∷ b ∷ c ∷ []) l = absurd (omega (arith, l))
eight_bytes (a ∷ b ∷ c ∷ d ∷ []) l = absurd (omega (arith, l))
eight_bytes (a ∷ b ∷ c ∷ d ∷ e ∷ []) l = absurd (omega (arith, l))
eight_bytes (a ∷ b ∷ c ∷ d ∷ e ∷ f ∷ []) l = absurd (omega (arith, l))
eight_bytes (a ∷ b ∷ c ∷ d ∷ e ∷ f ∷ g ∷ []) l = absurd (omega (arith, l))
eight_bytes (a ∷ b ∷ c ∷ d ∷ e ∷ f ∷ g ∷ h ∷ x ∷ bytes) l = absurd (omega (arith, l))

-- the word at the front of the bytes
pub word_found : (k : ℕ) (w : Width) (bytes first rest : List ℕ) (word : ℕ) → IsWord k w → ((i : ℕ) → get_or bytes i 0 < 256) → first ≡ take k bytes → rest ≡ drop k bytes → k ≤ length bytes → word ≡ from_le_bytes w first
    → little_endian_at k bytes ≡ Some (word, rest)
word_found k w bytes first rest word same small front behind le is =
    let number = is ∙ ap (from_le_bytes w) front ∙ same (take k bytes) (length-take-le k bytes le) ∙ number_front k bytes in
    number_at k bytes small le ∙ (λ i. Some (sym number i, sym behind i))

-- ---- integers of one byte

byte_read : (b : ℕ) (bytes : List ℕ) → b < 256 → (integer U8).parse (b ∷ bytes) ≡ Some (pos b, bytes)
byte_read b bytes small = rw (lt-ltb b 256 small, add-zero b, lt-ltb b 256 small) refl

all_read : (n : ℕ) (bytes : List ℕ) → ((i : ℕ) → get_or bytes i 0 < 256) → n ≤ length bytes → repeated_at (integer U8).parse n bytes ≡ Some (map (λ b. pos b) (take n bytes), drop n bytes)
all_read zero bytes small le = refl
all_read (suc n) [] small le = absurd (omega (arith, le))
all_read (suc n) (b ∷ bytes) small le = rw (byte_read b bytes (small 0), all_read n bytes (λ i. small (suc i)) (omega (arith, le))) refl

none_read : (n : ℕ) (bytes : List ℕ) → ((i : ℕ) → get_or bytes i 0 < 256) → length bytes < n → repeated_at (integer U8).parse n bytes ≡ None
none_read zero bytes small lt = absurd (omega (arith, lt))
none_read (suc n) [] small lt = refl
none_read (suc n) (b ∷ bytes) small lt = rw (byte_read b bytes (small 0), none_read n bytes (λ i. small (suc i)) (omega (arith, lt))) refl

by_length : (t : Bool) (n : ℕ) (bytes : List ℕ) → ((i : ℕ) → get_or bytes i 0 < 256) → nat_lt (length bytes) n ≡ t → repeated_at (integer U8).parse n bytes ≡ made_at (map (λ b. pos b)) (raw_at n) bytes
by_length true n bytes small h = rw (h, none_read n bytes small (ltb-true (length bytes) n h)) refl
by_length false n bytes small h = rw (h, all_read n bytes small (ltb-false (length bytes) n h)) refl

-- integers of one byte are the bytes as they stand
pub bytes_read : (n : ℕ) (bytes : List ℕ) → ((i : ℕ) → get_or bytes i 0 < 256) → repeated_at (integer U8).parse n bytes ≡ made_at (map (λ b. pos b)) (raw_at n) bytes
bytes_read n bytes small = by_length (nat_lt (length bytes) n) n bytes small refl
