-- Bytes as one number, and back.
use Rattle.std.proofs.Common.{◌≡◌, ◌<◌, ◌+◌, ◌*◌, ◌^◌, ◌∙◌, ℕ, zero, suc, List, [], ◌∷◌, length, true, refl, ap, sym, arith}
use Rattle.std.specs.Prelude.{◌/◌, ◌%◌, nat_lt}
use Rattle.std.specs.List.{list_all}
use Rattle.std.proofs.lemmas.Bool.{and_parts, and_from, ltb-true, lt-ltb}
use Rattle.std.proofs.lemmas.Nat.{pow-add}
use Rattle.vx_base.specs.Packed.{bytes_in, packed_number}

low : (b rest : ℕ) → b < 256 → (b + 256 * rest) % 256 ≡ b
low b rest h = omega arith

high : (b rest : ℕ) → b < 256 → (b + 256 * rest) / 256 ≡ rest
high b rest h = omega arith

-- whose number is this
pub bytes_in-packed_number : (bytes : List ℕ) → list_all (λ byte. nat_lt byte 256) bytes ≡ true → bytes_in (length bytes) (packed_number 8 bytes) ≡ bytes
unfolding bytes_in
bytes_in-packed_number [] h = refl
bytes_in-packed_number (b ∷ bytes) h =
    let p = and_parts _ _ h in
    let l : b < 256 = ltb-true _ _ p.0 in
    let rest : bytes_in (length bytes) ((b + 256 * packed_number 8 bytes) / 256) ≡ bytes = ap (bytes_in (length bytes)) (high b (packed_number 8 bytes) l) ∙ bytes_in-packed_number bytes p.1 in
    λ i. low b (packed_number 8 bytes) l i ∷ rest i

pub bytes_in-is : (bytes : List ℕ) (count number : ℕ) → list_all (λ byte. nat_lt byte 256) bytes ≡ true → length bytes ≡ count → packed_number 8 bytes ≡ number → bytes ≡ bytes_in count number
bytes_in-is bytes count number h l e = rw (← l, ← e) (sym (bytes_in-packed_number bytes h))

pub length-bytes_in : (count number : ℕ) → length (bytes_in count number) ≡ count
unfolding bytes_in
length-bytes_in zero number = refl
length-bytes_in (suc count) number = ap suc (length-bytes_in count (number / 256))

pub bytes_in-held : (count number : ℕ) → list_all (λ byte. nat_lt byte 256) (bytes_in count number) ≡ true
unfolding bytes_in
bytes_in-held zero number = refl
bytes_in-held (suc count) number = and_from _ _ (lt-ltb _ _ (omega arith)) (bytes_in-held count (number / 256))

-- a number below 2^(8 * count) is that of its low `count` bytes
pub packed_number-bytes_in : (count number : ℕ) → number < 2 ^ (8 * count) → packed_number 8 (bytes_in count number) ≡ number
unfolding bytes_in
packed_number-bytes_in zero number h = omega arith
packed_number-bytes_in (suc count) number h =
    let p : 2 ^ (8 * suc count) ≡ 256 * 2 ^ (8 * count) = ap (λ k. 2 ^ k) (omega arith) ∙ pow-add 2 8 (8 * count) in
    let rest = packed_number-bytes_in count (number / 256) (omega (arith, p)) in
    omega (arith, rest)

pub ruleset bytes_are = (bytes_in-is)
