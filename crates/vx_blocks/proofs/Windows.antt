use Rattle.std.proofs.Common.{◌≡◌, ℕ, ◌+◌, ◌-◌, ◌*◌, ◌/◌, ◌%◌, ◌^◌, ◌<◌, ◌≤◌, List, [], ◌∷◌, length, get_or, take, drop, sym, ap, ◌∙◌, arith, suc, zero, subst, refl, add-one}
use Rattle.std.specs.Int.{w64, from_le_bytes}
use Rattle.std.specs.Int.RustNames.{bit_or, bit_and}
use Rattle.std.proofs.lemmas.Nat.{pow_pos, pow-add, shr_high, mod_low, shr-shr, mod-pow-add, field_of, mul-add-lt, pow_below, shr_below, shl_whole, or_shifted, one_shl, and_mask}
use Rattle.std.proofs.lemmas.List.{length-take-le, take-append-drop, drop_more, length-drop}
use Rattle.std.proofs.Math.Nat as nat
use Rattle.std.proofs.Math.Nat.{mul-le-mul_left}
use Rattle.vx_base.specs.Packed.{packed_number, row_in, packed_size, block_count}
use Rattle.vx_blocks.proofs.Joins.{packed_number-append, packed_number_more, or_wide}

-- rows that fit their width
pub packed_number-lt : (w : ℕ) (xs : List ℕ) → ((i : ℕ) → get_or xs i 0 < 2 ^ w) → packed_number w xs < 2 ^ (w * length xs)
packed_number-lt w [] fits = pow_pos (w * 0)
packed_number-lt w (x ∷ xs) fits =
    let ih = packed_number-lt w xs (λ i. fits (suc i)) in
    let p : 2 ^ (w * length (x ∷ xs)) ≡ 2 ^ w * 2 ^ (w * length xs) = ap (λ k. 2 ^ k) (omega arith) ∙ pow-add 2 w (w * length xs) in
    rw p (omega (arith, mul-add-lt (packed_number w xs) (2 ^ w) x (2 ^ (w * length xs)) ih (fits 0)))

take-fits : (w i : ℕ) (xs : List ℕ) → ((k : ℕ) → get_or xs k 0 < 2 ^ w) → (k : ℕ) → get_or (take i xs) k 0 < 2 ^ w
take-fits w zero xs fits k = pow_pos w
take-fits w (suc i) [] fits k = pow_pos w
take-fits w (suc i) (x ∷ xs) fits zero = fits 0
take-fits w (suc i) (x ∷ xs) fits (suc k) = take-fits w i xs (λ j. fits (suc j)) k

packed_number-cut : (w i : ℕ) (xs : List ℕ) → i ≤ length xs → packed_number w xs ≡ packed_number w (drop i xs) * 2 ^ (w * i) + packed_number w (take i xs)
packed_number-cut w i xs h =
    let e : length (take i xs) ≡ i = length-take-le i xs h in
    let whole = packed_number-append w (take i xs) (drop i xs) in
    ap (packed_number w) (sym (take-append-drop i xs)) ∙ whole ∙ rw e (omega arith)

packed_number-front-lt : (w i : ℕ) (xs : List ℕ) → ((k : ℕ) → get_or xs k 0 < 2 ^ w) → i ≤ length xs → packed_number w (take i xs) < 2 ^ (w * i)
packed_number-front-lt w i xs fits h = subst (λ n. packed_number w (take i xs) < 2 ^ (w * n)) (length-take-le i xs h) (packed_number-lt w (take i xs) (take-fits w i xs fits))

-- the rows from a place on
pub packed_number-drop : (w i : ℕ) (xs : List ℕ) → ((k : ℕ) → get_or xs k 0 < 2 ^ w) → i ≤ length xs → packed_number w (drop i xs) ≡ packed_number w xs / 2 ^ (w * i)
packed_number-drop w i xs fits h = rw (packed_number-cut w i xs h) (sym (shr_high (packed_number w (drop i xs)) (w * i) (packed_number w (take i xs)) (packed_number-front-lt w i xs fits h)))

-- the first rows
pub packed_number-take : (w i : ℕ) (xs : List ℕ) → ((k : ℕ) → get_or xs k 0 < 2 ^ w) → i ≤ length xs → packed_number w (take i xs) ≡ packed_number w xs % 2 ^ (w * i)
packed_number-take w i xs fits h = rw (packed_number-cut w i xs h) (sym (mod_low (packed_number w (drop i xs)) (w * i) (packed_number w (take i xs)) (packed_number-front-lt w i xs fits h)))

pub low_low : (n big small : ℕ) → small ≤ big → n % 2 ^ big % 2 ^ small ≡ n % 2 ^ small
low_low n big small le =
    let e : big - small + small ≡ big = omega arith in
    subst (λ k. n % 2 ^ k % 2 ^ small ≡ n % 2 ^ small) e (ap (λ m. m % 2 ^ small) (mod-pow-add n (big - small) small) ∙ mod_low (n / 2 ^ small % 2 ^ (big - small)) small (n % 2 ^ small) (nat.mod-lt n (pow_pos small)))

-- a row's bits from the word that begins at its byte
pub row_from_word : (number word byte shift width size row : ℕ) → word ≡ number / 2 ^ (8 * byte) % 2 ^ size → shift + width ≤ size → 8 * byte + shift ≡ width * row
    → word / 2 ^ shift % 2 ^ width ≡ row_in width number row
row_from_word number word byte shift width size row is room at =
    let e : size - shift + shift ≡ size = omega arith in
    let high : number / 2 ^ (8 * byte) % 2 ^ size / 2 ^ shift ≡ number / 2 ^ (8 * byte) / 2 ^ shift % 2 ^ (size - shift) =
    subst (λ k. number / 2 ^ (8 * byte) % 2 ^ k / 2 ^ shift ≡ number / 2 ^ (8 * byte) / 2 ^ shift % 2 ^ (size - shift)) e (field_of (number / 2 ^ (8 * byte)) (size - shift) shift) in
    rw (is, high) (low_low _ (size - shift) width (omega arith) ∙ ap (λ n. n % 2 ^ width) (shr-shr number (8 * byte) shift ∙ ap (λ k. number / 2 ^ k) at))

-- eight bytes read as a word
pub packed_number-word : (bs : List ℕ) → length bs ≡ 8 → from_le_bytes w64 bs ≡ packed_number 8 bs
packed_number-word (a ∷ b ∷ c ∷ d ∷ e ∷ f ∷ g ∷ h ∷ []) l = omega arith
packed_number-word [] l = absurd (omega arith)
packed_number-word (a ∷ []) l = absurd (omega arith)
packed_number-word (a ∷ b ∷ []) l = absurd (omega arith)
packed_number-word (a ∷ b ∷ c ∷ []) l = absurd (omega arith)
packed_number-word (a ∷ b ∷ c ∷ d ∷ []) l = absurd (omega arith)
packed_number-word (a ∷ b ∷ c ∷ d ∷ e ∷ []) l = absurd (omega arith)
packed_number-word (a ∷ b ∷ c ∷ d ∷ e ∷ f ∷ []) l = absurd (omega arith)
packed_number-word (a ∷ b ∷ c ∷ d ∷ e ∷ f ∷ g ∷ []) l = absurd (omega arith)
packed_number-word (a ∷ b ∷ c ∷ d ∷ e ∷ f ∷ g ∷ h ∷ x ∷ bs) l = absurd (omega arith)

drop-fits : (w i : ℕ) (xs : List ℕ) → ((k : ℕ) → get_or xs k 0 < 2 ^ w) → (k : ℕ) → get_or (drop i xs) k 0 < 2 ^ w
drop-fits w zero xs fits k = fits k
drop-fits w (suc i) [] fits k = pow_pos w
drop-fits w (suc i) (x ∷ xs) fits k = drop-fits w i xs (λ j. fits (suc j)) k

-- the eight bytes from a place on, and fewer at the end
pub word-whole : (packed : List ℕ) (byte : ℕ) → ((k : ℕ) → get_or packed k 0 < 2 ^ 8) → byte ≤ length packed → 8 ≤ length (drop byte packed) → packed_number 8 (take 8 (drop byte packed)) ≡ packed_number 8 packed / 2 ^ (8 * byte) % 2 ^ 64
word-whole packed byte fits h more =
    packed_number-take 8 8 (drop byte packed) (drop-fits 8 byte packed fits) more ∙ ap (λ n. n % 2 ^ 64) (packed_number-drop 8 byte packed fits h)

pub word-short : (packed : List ℕ) (byte : ℕ) → ((k : ℕ) → get_or packed k 0 < 2 ^ 8) → byte ≤ length packed → length (drop byte packed) < 8 → packed_number 8 (drop byte packed) ≡ packed_number 8 packed / 2 ^ (8 * byte) % 2 ^ 64
word-short packed byte fits h few =
    let lt = packed_number-lt 8 (drop byte packed) (drop-fits 8 byte packed fits) in
    let le = pow_below (8 * length (drop byte packed)) 64 (omega arith) in
    let e = packed_number-drop 8 byte packed fits h in
    e ∙ sym (nat.mod-eq_of_lt (rw (← e) (nat.lt_trans lt le)))

pub short-more : (bytes : List ℕ) (i word : ℕ) → ((k : ℕ) → get_or bytes k 0 < 2 ^ 8) → length bytes < 8 → i < length bytes → word ≡ packed_number 8 (take i bytes)
    → bit_or (get_or bytes i 0 * 2 ^ (8 * i) % 2 ^ 64) word ≡ packed_number 8 (take (i + 1) bytes)
short-more bytes i word fits few h is =
    let lt = packed_number-front-lt 8 i bytes fits (omega arith) in
    rw (shl_whole (get_or bytes i 0) 8 (8 * i) 64 (fits i) (omega arith), is, packed_number_more 8 bytes i h) (or_shifted (get_or bytes i 0) (8 * i) (packed_number 8 (take i bytes)) lt ∙ omega arith)

pub low-mask : (word width : ℕ) → width < 64 → bit_and word (1 * 2 ^ width % 2 ^ 64 - 1) ≡ word % 2 ^ width
low-mask word width h = rw (one_shl width 64 h) (and_mask word width)

-- a row of a number of rows that fit
packed_number-first : (w : ℕ) (x : ℕ) (rest : ℕ) → x < 2 ^ w → (x + 2 ^ w * rest) % 2 ^ w ≡ x
packed_number-first w x rest fits = let e : x + 2 ^ w * rest ≡ rest * 2 ^ w + x = omega arith in rw e (mod_low rest w x fits)

pub row_in-packed_number : (w : ℕ) (rows : List ℕ) (i : ℕ) → ((k : ℕ) → get_or rows k 0 < 2 ^ w) → i < length rows → row_in w (packed_number w rows) i ≡ get_or rows i 0
row_in-packed_number w rows i fits h =
    rw (← packed_number-drop w i rows fits (nat.le_of_lt h), drop_more rows i 0 h) (packed_number-first w (get_or rows i 0) (packed_number w (drop (i + 1) rows)) (fits i))

-- ---- a row that goes on behind its word
tall : (m b word : ℕ) → word ≡ m % 2 ^ 64 → b ≡ m / 2 ^ 64 % 2 ^ 8 → m % 2 ^ 72 ≡ b * 2 ^ 64 + word
tall m b word low high = mod-pow-add m 8 64 ∙ rw (low, high) refl

-- the bits from `shift` on
tall-shifted : (b word room shift : ℕ) → room + shift ≡ 64 → (b * 2 ^ 64 + word) / 2 ^ shift ≡ b * 2 ^ room + word / 2 ^ shift
tall-shifted b word room shift e =
    let P : ℕ → Type 0 = λ k. (b * 2 ^ k + word) / 2 ^ shift ≡ b * 2 ^ room + word / 2 ^ shift in
    let p : b * 2 ^ (room + shift) ≡ b * 2 ^ room * 2 ^ shift = rw (pow-add 2 room shift) (omega arith) in
    subst P e (rw p (nat.mul-add-div_right (pow_pos shift) (b * 2 ^ room) word))

pub tall-row : (number byte b shift width row word : ℕ) → word ≡ number / 2 ^ (8 * byte) % 2 ^ 64 → b ≡ number / 2 ^ (8 * (byte + 8)) % 2 ^ 8 → shift < 8 → width ≤ 64 → 8 * byte + shift ≡ width * row
    → bit_or (word / 2 ^ shift) (b * 2 ^ (64 - shift) % 2 ^ 64) % 2 ^ width ≡ row_in width number row
tall-row number byte b shift width row word low high few narrow at =
    let m = number / 2 ^ (8 * byte) in
    let room : 64 - shift + shift ≡ 64 = omega arith in
    let room' : shift + (64 - shift) ≡ 64 = omega arith in
    let e : 8 * (byte + 8) ≡ 8 * byte + 64 = omega arith in
    let high' : b ≡ m / 2 ^ 64 % 2 ^ 8 = high ∙ ap (λ k. number / 2 ^ k % 2 ^ 8) e ∙ ap (λ n. n % 2 ^ 8) (sym (shr-shr number (8 * byte) 64)) in
    let lt : word < 2 ^ (64 - shift + shift) = subst (λ k. word < 2 ^ k) (sym room) (rw low (nat.mod-lt m (pow_pos 64))) in
    let small : word / 2 ^ shift < 2 ^ (64 - shift) = shr_below word (64 - shift) shift lt in
    let whole : (b * 2 ^ (64 - shift) + word / 2 ^ shift) ≡ m % 2 ^ 72 / 2 ^ shift = sym (tall-shifted b word (64 - shift) shift room) ∙ ap (λ n. n / 2 ^ shift) (sym (tall m b word low high')) in
    ap (λ n. n % 2 ^ width) (or_wide (word / 2 ^ shift) (64 - shift) shift b small room' ∙ ap (λ n. n % 2 ^ 64) whole) ∙ low_low (m % 2 ^ 72 / 2 ^ shift) 64 width narrow ∙ row_from_word number (m % 2 ^ 72) byte shift width 72 row refl (omega arith) at

-- ---- where rows lie: eight of them are `width` bytes
pub get-place : (width row : ℕ) → 8 * (row / 8 * width + row % 8 * width / 8) + row % 8 * width % 8 ≡ width * row
get-place width row = let e : width * row ≡ width * (8 * (row / 8) + row % 8) = ap (λ k. width * k) (omega arith) in omega arith

pub get-room : (width row len : ℕ) → packed_size width (row + 1) ≤ len → 8 * (row / 8 * width + row % 8 * width / 8) + row % 8 * width % 8 + width ≤ 8 * len
get-room width row len h =
    let many : row / 8 + 1 ≤ 128 * block_count (row + 1) = omega arith in
    let m = mul-le-mul_left width many in
    let last : row % 8 ≤ 7 = omega arith in
    let n = mul-le-mul_left width last in
    omega arith

pub eight-place : (width eight g j : ℕ) → 8 * ((eight + g) * width + j * width / 8) + j * width % 8 ≡ width * (8 * eight + (8 * g + j))
eight-place width eight g j = omega arith

pub eight-room : (width eight g n j len : ℕ) → g < n → j < 8 → 0 < width → (eight + n) * width + 8 ≤ len → (eight + g) * width + j * width / 8 + 8 ≤ len
eight-room width eight g n j len h few some room =
    let next : eight + g + 1 ≤ eight + n = omega arith in
    let m = mul-le-mul_left width next in
    let last : j ≤ 7 = omega arith in
    let k = mul-le-mul_left width last in
    omega arith

pub eight-end : (width eight g n j len : ℕ) → g < n → j < 8 → (eight + n) * width + 8 ≤ len → 8 * ((eight + g) * width + j * width / 8) + j * width % 8 + width ≤ 8 * len
eight-end width eight g n j len h few room =
    let next : eight + g + 1 ≤ eight + n = omega arith in
    let m = mul-le-mul_left width next in
    let last : j ≤ 7 = omega arith in
    let k = mul-le-mul_left width last in
    omega arith

row-step : (xs : List ℕ) (i j k n : ℕ) → n ≡ k + 1 → j ≡ i + 1 → i < length xs → packed_number 8 (take n (drop i xs)) ≡ get_or xs i 0 + 256 * packed_number 8 (take k (drop j xs))
row-step xs i j k n e f h = rw (e, f, drop_more xs i 0 h, add-one) refl

-- eight bytes by their places
pub eight-bytes : (xs : List ℕ) (i word : ℕ) → ((k : ℕ) → get_or xs k 0 < 2 ^ 8) → i + 8 ≤ length xs
    → word ≡ from_le_bytes w64 (get_or xs i 0 ∷ get_or xs (i + 1) 0 ∷ get_or xs (i + 2) 0 ∷ get_or xs (i + 3) 0 ∷ get_or xs (i + 4) 0 ∷ get_or xs (i + 5) 0 ∷ get_or xs (i + 6) 0 ∷ get_or xs (i + 7) 0 ∷ [])
    → word ≡ packed_number 8 xs / 2 ^ (8 * i) % 2 ^ 64
eight-bytes xs i word fits h is =
    let a = row-step xs i (i + 1) 7 8 refl refl (omega arith) in
    let b = row-step xs (i + 1) (i + 2) 6 7 refl (omega arith) (omega arith) in
    let c = row-step xs (i + 2) (i + 3) 5 6 refl (omega arith) (omega arith) in
    let d = row-step xs (i + 3) (i + 4) 4 5 refl (omega arith) (omega arith) in
    let e = row-step xs (i + 4) (i + 5) 3 4 refl (omega arith) (omega arith) in
    let f = row-step xs (i + 5) (i + 6) 2 3 refl (omega arith) (omega arith) in
    let g = row-step xs (i + 6) (i + 7) 1 2 refl (omega arith) (omega arith) in
    let m = row-step xs (i + 7) (i + 8) 0 1 refl (omega arith) (omega arith) in
    let whole = word-whole xs i fits (omega arith) (omega (arith, length-drop i xs)) in
    let sum : word ≡ packed_number 8 (take 8 (drop i xs)) = omega (arith, is, a, b, c, d, e, f, g, m) in
    sum ∙ whole
