use Rattle.std.proofs.Common.{◌≡◌, ℕ, ◌+◌, ◌*◌, ◌/◌, ◌%◌, ◌^◌, ◌<◌, ◌≤◌, ◌≢◌, Bool, true, false, List, [], ◌∷◌, ◌++◌, length, length-append, get_or, take, drop, subst, refl, sym, ap, ◌∙◌, arith, suc, zero, map, inl, inr}
use Rattle.std.proofs.lemmas.List.{get_or-map, length-map, take_all}
use Rattle.std.proofs.lemmas.Bool.Decides.{nat_tests}
use Rattle.std.proofs.Math.Nat as nat
use Rattle.std.proofs.lemmas.Bool.{cases_lt}
use Rattle.std.proofs.lemmas.Nat.{pow_pos, pow-add}
use Rattle.vx_blocks.specs.Holds.{Holds}
use Rattle.vx_base.specs.Packed.{kept_row, kept_rows, packed_size, packed_number}
use Rattle.vx_blocks.proofs.Joins.{packed_number_more, packed_number-append, packed_number-group}

pub kept_row-lt : (width bits : ℕ) (valid : Bool) → kept_row width bits valid < 2 ^ width
kept_row-lt width bits true = grind (arith, nat_tests, pow_pos width)
kept_row-lt width bits false = pow_pos width

pub length-kept_rows : (width : ℕ) (bits : List ℕ) (valid : List Bool) → length valid ≡ length bits → length (kept_rows width bits valid) ≡ length bits
length-kept_rows width [] valid e = refl
length-kept_rows width (b ∷ bits) [] e = e
length-kept_rows width (b ∷ bits) (v ∷ valid) e = let ih = length-kept_rows width bits valid (omega arith) in omega arith

pub kept_rows-get : (width : ℕ) (bits : List ℕ) (valid : List Bool) (i : ℕ) → length valid ≡ length bits → i < length bits → get_or (kept_rows width bits valid) i 0 ≡ kept_row width (get_or bits i 0) (get_or valid i false)
kept_rows-get width [] valid i e h = absurd (omega arith)
kept_rows-get width (b ∷ bits) [] i e h = absurd (omega arith)
kept_rows-get width (b ∷ bits) (v ∷ valid) zero e h = refl
kept_rows-get width (b ∷ bits) (v ∷ valid) (suc i) e h = kept_rows-get width bits valid i (omega arith) (omega arith)

pub kept_row-fits : (width bits : ℕ) (valid : Bool) → valid ≡ true → bits < 2 ^ width → kept_row width bits valid ≡ bits
kept_row-fits width bits valid is_valid fits = grind (arith, nat_tests)

pub kept_row-wide : (width bits : ℕ) (valid : Bool) → bits / 2 ^ width ≢ 0 → kept_row width bits valid ≡ 0
kept_row-wide width bits true h = elim (cases_lt bits (2 ^ width)) [ inl lt ↦ absurd (h (nat.div-eq_of_lt lt)) | inr far ↦ grind (arith, nat_tests) ]
kept_row-wide width bits false h = refl

-- the rows of a slice whose items are whole numbers by g, with the bits f
pub kept_rows-length : {X Z : Type 0} (f : Z → ℕ) (g : X → Z) (width : ℕ) (xs : List X) (valid : List Bool) → length valid ≡ length xs → length (kept_rows width (map f (map g xs)) valid) ≡ length xs
kept_rows-length f g width xs valid e =
    let l : length (map f (map g xs)) ≡ length xs = length-map (map g xs) f ∙ length-map xs g in
    length-kept_rows width (map f (map g xs)) valid (e ∙ sym l) ∙ l

pub kept_rows_all : {X Z : Type 0} (f : Z → ℕ) (g : X → Z) (width : ℕ) (xs : List X) (valid : List Bool) (i : ℕ) → length valid ≡ length xs → length xs ≤ i → take i (kept_rows width (map f (map g xs)) valid) ≡ kept_rows width (map f (map g xs)) valid
kept_rows_all f g width xs valid i e h =
    let all = kept_rows-length f g width xs valid e in
    take_all i (kept_rows width (map f (map g xs)) valid) (omega (arith, all))

pub bits-at : {X Z : Type 0} (f : Z → ℕ) (g : X → Z) (xs : List X) (i : ℕ) (x : X) (row : ℕ) → i < length xs → x ≡ get_or xs i x → row ≡ f (g x) → row ≡ get_or (map f (map g xs)) i 0
bits-at f g xs i x row h at is =
    let m : length (map g xs) ≡ length xs = length-map xs g in
    is ∙ sym (get_or-map f (map g xs) i (g x) 0 (omega arith) ∙ ap f (get_or-map g xs i x (g x) h ∙ ap g (sym at)))

pub kept_rows-at : {X Z : Type 0} (f : Z → ℕ) (g : X → Z) (width : ℕ) (xs : List X) (valid : List Bool) (i : ℕ) (x : X) (row : ℕ) → length valid ≡ length xs → i < length xs
    → x ≡ get_or xs i x → row ≡ kept_row width (f (g x)) (get_or valid i false) → row ≡ get_or (kept_rows width (map f (map g xs)) valid) i 0
kept_rows-at f g width xs valid i x row e h at is =
    let l : length (map f (map g xs)) ≡ length xs = length-map (map g xs) f ∙ length-map xs g in
    is ∙ ap (λ b. kept_row width b (get_or valid i false)) (bits-at f g xs i x (f (g x)) h at refl) ∙ sym (kept_rows-get width (map f (map g xs)) valid i (e ∙ sym l) (omega arith))

-- the bytes that are to come out
pub packed_size-kept_rows : {X Z : Type 0} (f : Z → ℕ) (g : X → Z) (width : ℕ) (xs : List X) (valid : List Bool) (size : ℕ) → length valid ≡ length xs → size ≡ packed_size width (length xs) → size ≡ packed_size width (length (kept_rows width (map f (map g xs)) valid))
packed_size-kept_rows f g width xs valid size e is = rw (kept_rows-length f g width xs valid e) is

-- ---- what `put` leaves, as the loop's invariant says it
pub next-row : (w : ℕ) (rows : List ℕ) (i row : ℕ) (bytes : List ℕ) (acc fill : ℕ) → i < length rows → row ≡ get_or rows i 0
    → Holds (packed_number w (take i rows) + 2 ^ (w * i) * row) (w * i + w) bytes acc fill → Holds (packed_number w (take (i + 1) rows)) (w * (i + 1)) bytes acc fill
next-row w rows i row bytes acc fill h is holds =
    let e : packed_number w (take i rows) + 2 ^ (w * i) * row ≡ packed_number w (take (i + 1) rows) = rw (is, packed_number_more w rows i h) refl in
    let p : w * i + w ≡ w * (i + 1) = omega arith in
    rw (e, p) at holds

-- behind other rows, whose number takes `shift` bits
shifted-sum : (base s a t row : ℕ) → base + s * a + s * t * row ≡ base + s * (a + t * row)
shifted-sum base s a t row = omega arith

-- what was there, before the first row
pub holds-before : (w : ℕ) (bytes : List ℕ) → length bytes % 8 ≡ 0 → Holds (packed_number 8 bytes + 2 ^ (8 * length bytes) * 0) (8 * length bytes + w * 0) bytes 0 0
holds-before w bytes even =
    record {
      value = omega arith;
      end = omega arith;
      words = (length bytes / 8, omega (arith, even));
      small = omega arith;
      room = omega arith;
    }

pub next-row-on : (base shift w : ℕ) (rows : List ℕ) (i row : ℕ) (bytes : List ℕ) (acc fill : ℕ) → i < length rows → row ≡ get_or rows i 0
    → Holds (base + 2 ^ shift * packed_number w (take i rows) + 2 ^ (shift + w * i) * row) (shift + w * i + w) bytes acc fill → Holds (base + 2 ^ shift * packed_number w (take (i + 1) rows)) (shift + w * (i + 1)) bytes acc fill
next-row-on base shift w rows i row bytes acc fill h is holds =
    let power : 2 ^ (shift + w * i) ≡ 2 ^ shift * 2 ^ (w * i) = pow-add 2 shift (w * i) in
    let sum : base + 2 ^ shift * packed_number w (take i rows) + 2 ^ (shift + w * i) * row ≡ base + 2 ^ shift * packed_number w (take (i + 1) rows) =
    ap (λ p. base + 2 ^ shift * packed_number w (take i rows) + p * row) power ∙ shifted-sum base (2 ^ shift) (packed_number w (take i rows)) (2 ^ (w * i)) row
    ∙ ap (λ n. base + 2 ^ shift * n) (ap (λ r. packed_number w (take i rows) + 2 ^ (w * i) * r) is ∙ sym (packed_number_more w rows i h))
    in
    let place : shift + w * i + w ≡ shift + w * (i + 1) = omega arith in
    subst (λ p. Holds (base + 2 ^ shift * packed_number w (take (i + 1) rows)) p bytes acc fill) place (subst (λ n. Holds n (shift + w * i + w) bytes acc fill) sum holds)

-- a group of 64 rows more, which are whole words
pub next-group-on : (base shift w : ℕ) (rows : List ℕ) (group : ℕ) (bytes more : List ℕ) → 64 * group + 64 ≤ length rows → length more ≡ 8 * w → packed_number 8 more ≡ packed_number w (take 64 (drop (64 * group) rows))
    → Holds (base + 2 ^ shift * packed_number w (take (64 * group) rows)) (shift + w * (64 * group)) bytes 0 0
    → Holds (base + 2 ^ shift * packed_number w (take (64 * (group + 1)) rows)) (shift + w * (64 * (group + 1))) (bytes ++ more) 0 0
next-group-on base shift w rows group bytes more room long is h =
    let next : 64 * (group + 1) ≡ 64 * group + 64 = omega arith in
    let place : 8 * length bytes ≡ shift + w * (64 * group) = omega (arith, h.end) in
    let low : packed_number 8 bytes ≡ base + 2 ^ shift * packed_number w (take (64 * group) rows) = omega (arith, h.value) in
    let power : 2 ^ (8 * length bytes) ≡ 2 ^ shift * 2 ^ (w * (64 * group)) = ap (λ k. 2 ^ k) place ∙ pow-add 2 shift (w * (64 * group)) in
    let part = packed_number w (take 64 (drop (64 * group) rows)) in
    let sum : packed_number 8 (bytes ++ more) ≡ base + 2 ^ shift * packed_number w (take (64 * (group + 1)) rows) =
    packed_number-append 8 bytes more ∙ ap (λ n. n + 2 ^ (8 * length bytes) * packed_number 8 more) low
    ∙ ap (λ n. base + 2 ^ shift * packed_number w (take (64 * group) rows) + 2 ^ (8 * length bytes) * n) is ∙ ap (λ p. base + 2 ^ shift * packed_number w (take (64 * group) rows) + p * part) power
    ∙ shifted-sum base (2 ^ shift) (packed_number w (take (64 * group) rows)) (2 ^ (w * (64 * group))) part
    ∙ ap (λ n. base + 2 ^ shift * n) (sym (packed_number-group w rows (64 * group) 64 (omega arith)) ∙ ap (λ n. packed_number w (take n rows)) (sym next))
    in
    record {
      value = omega (arith, sum);
      end = omega (arith, h.end, length-append bytes more, long);
      words = (h.words.0 + w, omega (arith, h.words.1, length-append bytes more, long));
      small = h.small;
      room = h.room;
    }

pub place_within : (w n i size : ℕ) → i ≤ n → size ≡ packed_size w n → w * i ≤ 8 * size
place_within w n i size h is = let m = nat.mul-le-mul_left w h in let le : n ≤ 1024 * ((n + 1023) / 1024) = omega arith in let m2 = nat.mul-le-mul_left w le in omega arith

pub kept_rows-fit : (width : ℕ) (bits : List ℕ) (valid : List Bool) (k : ℕ) → get_or (kept_rows width bits valid) k 0 < 2 ^ width
kept_rows-fit width [] valid k = pow_pos width
kept_rows-fit width (b ∷ bits) [] k = pow_pos width
kept_rows-fit width (b ∷ bits) (v ∷ valid) zero = kept_row-lt width b v
kept_rows-fit width (b ∷ bits) (v ∷ valid) (suc k) = kept_rows-fit width bits valid k
