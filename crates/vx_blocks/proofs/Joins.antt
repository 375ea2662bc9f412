use Rattle.std.proofs.Common.{◌≡◌, ℕ, ◌+◌, ◌-◌, ◌*◌, ◌/◌, ◌%◌, ◌^◌, ◌<◌, ◌≤◌, List, [], ◌∷◌, ◌++◌, length, get_or, take, drop, refl, sym, ap, ◌∙◌, arith, replicate, length-append, suc, zero, subst, add-zero, lit<}
use Rattle.std.specs.Int.{w64, to_le_bytes}
use Rattle.std.specs.Int.RustNames.{bit_or}
use Rattle.std.proofs.lemmas.List.{take_more, length-take-le, take_all}
use Rattle.std.proofs.Math.Seq.{take-add}
use Rattle.std.proofs.lemmas.Nat.{pow_pos, pow-add, or_comm, or_shifted, shr_high, mod_low, shr-shr, mod-pow-add, from_le_bytes-to_le_bytes_8, shr_split, mul-add-lt, pow_below, shr_below}
use Rattle.std.proofs.Math.Nat as nat
use Rattle.vx_blocks.specs.Holds.{Holds}
use Rattle.vx_base.specs.Packed.{packed_number}

-- rows put behind others
pub packed_number-append : (w : ℕ) (xs ys : List ℕ) → packed_number w (xs ++ ys) ≡ packed_number w xs + 2 ^ (w * length xs) * packed_number w ys
packed_number-append w [] ys = grind arith
packed_number-append w (x ∷ xs) ys =
    let e = packed_number-append w xs ys in
    let p : 2 ^ (w * length (x ∷ xs)) ≡ 2 ^ w * 2 ^ (w * length xs) = ap (λ k. 2 ^ k) (omega arith) ∙ pow-add 2 w (w * length xs) in
    rw (e, p) (omega arith)

pub packed_number-push : (w : ℕ) (xs : List ℕ) (y : ℕ) → packed_number w (xs ++ y ∷ []) ≡ packed_number w xs + 2 ^ (w * length xs) * y
packed_number-push w xs y = packed_number-append w xs (y ∷ []) ∙ omega arith

pub packed_number_more : (w : ℕ) (xs : List ℕ) (i : ℕ) → i < length xs → packed_number w (take (i + 1) xs) ≡ packed_number w (take i xs) + 2 ^ (w * i) * get_or xs i 0
packed_number_more w xs i h = rw (take_more xs i 0 h, packed_number-push, length-take-le i xs (omega arith)) refl

packed_number-zeros : (w k : ℕ) → packed_number w (replicate k 0) ≡ 0
packed_number-zeros w zero = refl
packed_number-zeros w (suc k) = rw (packed_number-zeros w k) (omega arith)

-- zeros behind rows change nothing
pub packed_number_padded : (w k : ℕ) (xs : List ℕ) → packed_number w (xs ++ replicate k 0) ≡ packed_number w xs
packed_number_padded w k xs = rw (packed_number-append, packed_number-zeros) (omega arith)

-- the bytes of a word are the word
pub packed_number-bytes : (n : ℕ) → n < 2 ^ 64 → packed_number 8 (to_le_bytes w64 n) ≡ n
packed_number-bytes n h = omega (arith, from_le_bytes-to_le_bytes_8 n h)

-- ---- a word that fills up
wide_low : (acc fill room bits : ℕ) → acc < 2 ^ fill → (bits * 2 ^ fill + acc) % 2 ^ (room + fill) ≡ bits % 2 ^ room * 2 ^ fill + acc
wide_low acc fill room bits small = mod-pow-add (bits * 2 ^ fill + acc) room fill ∙ rw (shr_high bits fill acc small, mod_low bits fill acc small) refl

-- `acc | bits << fill` is the low word of the whole
pub or_wide : (acc fill room bits : ℕ) → acc < 2 ^ fill → room + fill ≡ 64 → bit_or acc (bits * 2 ^ fill % 2 ^ 64) ≡ (bits * 2 ^ fill + acc) % 2 ^ 64
or_wide acc fill room bits small whole =
    let P : ℕ → Type 0 = λ k. bit_or acc (bits * 2 ^ fill % 2 ^ k) ≡ (bits * 2 ^ fill + acc) % 2 ^ k in
    let left : bits * 2 ^ fill % 2 ^ (room + fill) ≡ bits % 2 ^ room * 2 ^ fill =
    ap (λ n. n % 2 ^ (room + fill)) (sym (add-zero (bits * 2 ^ fill))) ∙ wide_low 0 fill room bits (pow_pos fill) ∙ add-zero (bits % 2 ^ room * 2 ^ fill)
    in
    let right = wide_low acc fill room bits small in
    subst P whole (rw (left, right, or_comm acc) (or_shifted (bits % 2 ^ room) fill acc small))

-- what is left above it
pub wide_rest : (acc fill room bits : ℕ) → acc < 2 ^ fill → room + fill ≡ 64 → (bits * 2 ^ fill + acc) / 2 ^ 64 ≡ bits / 2 ^ room
wide_rest acc fill room bits small whole =
    let e : fill + room ≡ 64 = omega arith in
    let P : ℕ → Type 0 = λ k. (bits * 2 ^ fill + acc) / 2 ^ k ≡ bits / 2 ^ room in
    subst P e (sym (shr-shr (bits * 2 ^ fill + acc) fill room) ∙ ap (λ n. n / 2 ^ room) (shr_high bits fill acc small))

wide_lt : (acc fill bits w : ℕ) → acc < 2 ^ fill → bits < 2 ^ w → bits * 2 ^ fill + acc < 2 ^ (fill + w)
wide_lt acc fill bits w small fits = rw (pow-add 2 fill w) (mul-add-lt bits (2 ^ fill) acc (2 ^ w) fits small)

-- ---- bytes that are out, and what is in the word behind them
number_stays : (n p acc q bits j : ℕ) → n + p * acc ≡ j → n + p * (bits * q + acc) ≡ j + p * q * bits
number_stays n p acc q bits j e = omega arith

number_word : (n p acc q bits j low rest : ℕ) → n + p * acc ≡ j → rest * 2 ^ 64 + low ≡ bits * q + acc → n + p * low + p * 2 ^ 64 * rest ≡ j + p * q * bits
number_word n p acc q bits j low rest e whole = omega (arith, ap (λ m. p * m) whole)

place_power : (place b fill : ℕ) → b + fill ≡ place → 2 ^ place ≡ 2 ^ b * 2 ^ fill
place_power place b fill e = ap (λ k. 2 ^ k) (sym e) ∙ pow-add 2 b fill

-- bits that leave room
pub Holds-stay : (number place : ℕ) (bytes : List ℕ) (acc fill bits width : ℕ) → Holds number place bytes acc fill → bits < 2 ^ width → fill + width < 64
    → Holds (number + 2 ^ place * bits) (place + width) bytes (bit_or acc (bits * 2 ^ fill % 2 ^ 64)) (fill + width)
Holds-stay number place bytes acc fill bits width h fits more =
    let lt = wide_lt acc fill bits width h.small fits in
    let lt64 = pow_below (fill + width) 64 more in
    let word : bit_or acc (bits * 2 ^ fill % 2 ^ 64) ≡ bits * 2 ^ fill + acc =
    or_wide acc fill (64 - fill) bits h.small (omega (arith, h.room)) ∙ nat.mod-eq_of_lt (omega arith)
    in
    record {
      value = rw (word, place_power place (8 * length bytes) fill h.end) (number_stays _ _ acc (2 ^ fill) bits _ h.value);
      end = omega (arith, h.end);
      words = h.words;
      small = rw word lt;
      room = more;
    }

-- bits that fill a word
pub Holds-word : (number place : ℕ) (bytes : List ℕ) (acc fill bits width : ℕ) (word : List ℕ) → Holds number place bytes acc fill → bits < 2 ^ width → width ≤ 64 → 64 ≤ fill + width
    → packed_number 8 word ≡ bit_or acc (bits * 2 ^ fill % 2 ^ 64) → length word ≡ 8 → Holds (number + 2 ^ place * bits) (place + width) (bytes ++ word) (bits / 2 ^ (64 - fill)) (fill + width - 64)
Holds-word number place bytes acc fill bits width word h fits within full is len =
    let room : 64 - fill + fill ≡ 64 = omega (arith, h.room) in
    let low = is ∙ or_wide acc fill (64 - fill) bits h.small room in
    let rest = wide_rest acc fill (64 - fill) bits h.small room in
    let whole : bits / 2 ^ (64 - fill) * 2 ^ 64 + packed_number 8 word ≡ bits * 2 ^ fill + acc = rw (low, ← rest) (shr_split (bits * 2 ^ fill + acc) 64) in
    let P : ℕ → Type 0 = λ k. 2 ^ k ≡ 2 ^ (8 * length bytes) * 2 ^ 64 in
    let power : 2 ^ (8 * length (bytes ++ word)) ≡ 2 ^ (8 * length bytes) * 2 ^ 64 = subst P (rw (length-append, len) (omega arith)) (pow-add 2 (8 * length bytes) 64) in
    record {
      value = rw (packed_number-append, power, place_power place (8 * length bytes) fill h.end) (number_word _ _ acc (2 ^ fill) bits _ (packed_number 8 word) _ h.value whole);
      end = rw (length-append, len) (omega (arith, h.end));
      words = (h.words.0 + 1, rw (length-append, len) (omega (arith, h.words.1)));
      small = shr_below bits (fill + width - 64) (64 - fill) (subst (λ k. bits < 2 ^ k) (omega (arith, h.room)) fits);
      room = omega (arith, h.room);
    }

-- ---- the end
pub rest_none : (fill bits width rest : ℕ) → fill ≡ 0 → rest ≡ 0 → bits < 2 ^ width → width ≤ 64 → rest ≡ bits / 2 ^ (64 - fill)
rest_none fill bits width rest none is fits within =
    let le = nat.pow-le-pow_right {n = 2} (lit< tt) within in
    let e : 64 - fill ≡ 64 = omega arith in
    rw e (is ∙ sym (nat.div-eq_of_lt (omega arith)))

resized : (bytes : List ℕ) (size pad : ℕ) → length bytes ≤ size → packed_number 8 (take size bytes ++ replicate pad 0) ≡ packed_number 8 bytes
resized bytes size pad h = rw (take_all size bytes h) (packed_number_padded 8 pad bytes)

pub packed-even : (number place : ℕ) (bytes after : List ℕ) (acc fill size pad : ℕ) → Holds number place bytes acc fill → fill ≡ 0 → place ≤ 8 * size
    → after ≡ take size bytes ++ replicate pad 0 → packed_number 8 after ≡ number
packed-even number place bytes after acc fill size pad h none room made =
    let none_left : acc ≡ 0 = omega (arith, subst (λ k. acc < 2 ^ k) none h.small) in
    ap (packed_number 8) made ∙ resized bytes size pad (omega (arith, h.end)) ∙ omega (arith, rw none_left at h.value)

pub packed-word : (number place : ℕ) (bytes word after : List ℕ) (acc fill size pad : ℕ) → Holds number place bytes acc fill → 0 < fill → place ≤ 8 * size → (n : ℕ) → size ≡ 8 * n
    → packed_number 8 word ≡ acc → length word ≡ 8 → after ≡ take size (bytes ++ word) ++ replicate pad 0 → packed_number 8 after ≡ number
packed-word number place bytes word after acc fill size pad h some room n whole low long made =
    let within : length (bytes ++ word) ≤ size = rw (length-append, long) (omega (arith, h.words.1, h.end)) in
    ap (packed_number 8) made ∙ resized (bytes ++ word) size pad within ∙ rw (packed_number-append, low) h.value

-- some rows more
pub packed_number-group : (w : ℕ) (xs : List ℕ) (i k : ℕ) → i ≤ length xs → packed_number w (take (i + k) xs) ≡ packed_number w (take i xs) + 2 ^ (w * i) * packed_number w (take k (drop i xs))
packed_number-group w xs i k h = rw (take-add, packed_number-append, length-take-le i xs h) refl
