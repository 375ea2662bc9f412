-- The laws of bits.
use Rattle.std.proofs.Common.{◌≡◌, ℕ, zero, suc, ◌+◌, ◌-◌, ◌*◌, ◌/◌, ◌%◌, ◌^◌, ◌<◌, ◌≤◌, min, Bool, true, false, cond, ltb, eqb, List, [], ◌∷◌, ◌++◌, length, take, drop, Some, None, refl, ap, subst, ◌∙◌, add-zero, arith, inl, inr}
use Rattle.std.proofs.lemmas.Bool.{cases_lt, ltb-true, lt-ltb}
use Rattle.std.proofs.lemmas.List.{take_at, drop_at, take-append-drop, length-append, length-take, length-drop, append-nil, nil_from_length, take_all, drop_all}
use Rattle.vx_codec.specs.Bits.{bits_number, number_bits, bit_bytes, bits_at, bytes_for, bits}
use Rattle.vx_codec.specs.FixedWidth.{byte_at}
use Rattle.vx_codec.specs.Format.{◌>>=◌, IsLawful}
use Rattle.vx_codec.proofs.FormatLaws.{bind_ok, some_is, test_ok}
use Rattle.vx_codec.proofs.NumberLaws.{byte_canonical}

pub length-number_bits : (k n : ℕ) → length (number_bits k n) ≡ k
length-number_bits zero n = refl
length-number_bits (suc k) n = ap suc (length-number_bits k (n / 2))

-- 2 ^ length, in a form that is linear
two_more : (k : ℕ) → 2 ^ suc k ≡ 2 * 2 ^ k
two_more k = omega arith

pub bits_number-below : (bs : List Bool) → bits_number bs < 2 ^ length bs
bits_number-below [] = omega arith
bits_number-below (true ∷ bs) = let ih = bits_number-below bs in let e = two_more (length bs) in omega arith
bits_number-below (false ∷ bs) = let ih = bits_number-below bs in let e = two_more (length bs) in omega arith

first_true : (h : ℕ) → eqb ((1 + 2 * h) % 2) 1 ≡ true
first_true h = let e : (1 + 2 * h) % 2 ≡ 1 = omega arith in rw e refl

first_false : (h : ℕ) → eqb ((0 + 2 * h) % 2) 1 ≡ false
first_false h = let e : (0 + 2 * h) % 2 ≡ 0 = omega arith in rw e refl

pub number_bits-bits_number : (bs : List Bool) → number_bits (length bs) (bits_number bs) ≡ bs
number_bits-bits_number [] = refl
number_bits-bits_number (true ∷ bs) =
    let half : (1 + 2 * bits_number bs) / 2 ≡ bits_number bs = omega arith in
    rw (first_true (bits_number bs), half, number_bits-bits_number bs) refl
number_bits-bits_number (false ∷ bs) =
    let half : (0 + 2 * bits_number bs) / 2 ≡ bits_number bs = omega arith in
    rw (first_false (bits_number bs), half, number_bits-bits_number bs) refl

bit_value : (n : ℕ) → cond (eqb (n % 2) 1) 1 0 ≡ n % 2
bit_value n =
    elim (cases_lt (n % 2) 1) [
      | inl lt ↦ let e : n % 2 ≡ 0 = omega arith in rw e refl
      | inr le ↦ let e : n % 2 ≡ 1 = omega arith in rw e refl
    ]

pub bits_number-number_bits : (k n : ℕ) → n < 2 ^ k → bits_number (number_bits k n) ≡ n
bits_number-number_bits zero n h = omega arith
bits_number-number_bits (suc k) n h =
    let e = two_more k in
    let ih = bits_number-number_bits k (n / 2) (omega arith) in
    rw (ih, bit_value n) (omega arith)

-- at most eight bits are at most a byte
pow_more : (n k : ℕ) → 2 ^ n ≤ 2 ^ (n + k)
pow_more n zero = rw add-zero (omega arith)
pow_more n (suc k) =
    let ih = pow_more n k in
    let e : n + suc k ≡ suc (n + k) = omega arith in
    let two = two_more (n + k) in
    rw e (omega arith)

pow_8 : (n : ℕ) → n ≤ 8 → 2 ^ n ≤ 256
pow_8 n h = subst (λ (m : ℕ). 2 ^ n ≤ 2 ^ m) (let e : n + (8 - n) ≡ 8 = omega arith in e) (pow_more n (8 - n))

pub power_8 : (n : ℕ) → 2 ^ min n 8 ≤ 256
power_8 n = pow_8 (min n 8) (omega arith)

-- the seam after eight, or after fewer where nothing follows
seam_8 : (front others : List Bool) (n : ℕ) → length front ≡ min n 8 → length others ≡ n - 8 → (take 8 (front ++ others) ≡ front) × (drop 8 (front ++ others) ≡ others)
seam_8 front others n len more =
    elim (cases_lt n 8) [
      | inl lt ↦
          let none : others ≡ [] = nil_from_length others (omega arith) in
          rw (none, append-nil front) (take_all 8 front (omega arith), drop_all 8 front (omega arith))
      | inr le ↦ (take_at front others 8 (omega arith), drop_at front others 8 (omega arith))
    ]

bits_round_trip : (k n : ℕ) (bs : List Bool) (rest : List ℕ) → length bs ≡ n → n ≤ 8 * k → bits_at k n (bit_bytes k bs ++ rest) ≡ Some (bs, rest)
bits_round_trip zero n [] rest h le = refl
bits_round_trip zero n (b ∷ bs) rest h le = absurd (omega arith)
bits_round_trip (suc k) n bs rest h le =
    let len : length (take 8 bs) ≡ min n 8 = omega (arith, length-take 8 bs) in
    let below : bits_number (take 8 bs) < 2 ^ min n 8 = rw len at (bits_number-below (take 8 bs)) in
    let small : ltb (bits_number (take 8 bs)) (2 ^ min n 8) ≡ true = lt-ltb _ _ below in
    let max : 2 ^ min n 8 ≤ 256 = power_8 n in
    let a_byte : ltb (bits_number (take 8 bs)) 256 ≡ true = lt-ltb _ _ (omega arith) in
    let ih = bits_round_trip k (n - 8) (drop 8 bs) rest (omega (arith, length-drop 8 bs)) (omega arith) in
    let front : number_bits (min n 8) (bits_number (take 8 bs)) ≡ take 8 bs = rw len at (number_bits-bits_number (take 8 bs)) in
    rw (a_byte, small, ih, front, take-append-drop 8 bs) refl

bits_canonical : (k n : ℕ) (bytes : List ℕ) (x : List Bool × List ℕ) → n ≤ 8 * k → bits_at k n bytes ≡ Some x → (bytes ≡ bit_bytes k x.0 ++ x.1) × (length x.0 ≡ n)
bits_canonical zero n bytes x le e = subst (λ (y : List Bool × List ℕ). (bytes ≡ y.1) × (length y.0 ≡ n)) (some_is ([], bytes) x e) (refl, omega arith)
bits_canonical (suc k) n bytes x le e =
    let b = bind_ok (byte_at bytes) (λ b. cond (ltb b.0 (2 ^ min n 8)) (bits_at k (n - 8) b.1 >>= λ bs. Some (number_bits (min n 8) b.0 ++ bs.0, bs.1)) None) x e in
    let g = test_ok (ltb b.0.0 (2 ^ min n 8)) (bits_at k (n - 8) b.0.1 >>= λ bs. Some (number_bits (min n 8) b.0.0 ++ bs.0, bs.1)) x b.2 in
    let h = bind_ok (bits_at k (n - 8) b.0.1) (λ bs. Some (number_bits (min n 8) b.0.0 ++ bs.0, bs.1)) x g.1 in
    let t = byte_canonical bytes b.0 b.1 in
    let u = bits_canonical k (n - 8) b.0.1 h.0 (omega arith) h.1 in
    let front : List Bool = number_bits (min n 8) b.0.0 in
    let len : length front ≡ min n 8 = length-number_bits (min n 8) b.0.0 in
    let back : bits_number front ≡ b.0.0 = bits_number-number_bits (min n 8) b.0.0 (ltb-true _ _ g.0) in
    let seam = seam_8 front h.0.0 n len u.1 in
    subst (λ (y : List Bool × List ℕ). (bytes ≡ bit_bytes (suc k) y.0 ++ y.1) × (length y.0 ≡ n)) (some_is (front ++ h.0.0, h.0.1) x h.2)
    (rw (seam.0, seam.1, back) (t.0 ∙ ap (λ (r : List ℕ). b.0.0 ∷ r) u.0), omega (arith, length-append front h.0.0, u.1, len))

pub bits_lawful : (n : ℕ) → IsLawful (bits n)
bits_lawful n = record {
  round_trip = λ bs rest h. bits_round_trip (bytes_for n) n bs rest h (omega arith);
  canonical = λ bytes x e. bits_canonical (bytes_for n) n bytes x (omega arith) e;
}

pub number_bits_more : (k n : ℕ) → 0 < k → number_bits k n ≡ eqb (n % 2) 1 ∷ number_bits (k - 1) (n / 2)
number_bits_more zero n h = absurd (omega arith)
number_bits_more (suc k) n h = let e : suc k - 1 ≡ k = omega arith in rw e refl
