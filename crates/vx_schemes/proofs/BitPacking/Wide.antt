-- Where a histogram counts no row above a width, no row is wider.
use Rattle.std.proofs.Common.{◌≡◌, ◌<◌, ◌≤◌, ◌+◌, ◌^◌, ◌∙◌, ℕ, zero, suc, ℤ, pos, negsuc, Bool, true, false, List, [], ◌∷◌, length, map, get_or, take, drop, sum, cond, refl, sym, subst, arith}
use Rattle.std.specs.Prelude.{◌==◌, count_by, filter, not, nat_lt}
use Rattle.std.specs.List.{list_all, list_any, range_with_len}
use Rattle.std.proofs.lemmas.Bool.{and_parts, or_parts, ltb-true, lt-ltb}
use Rattle.std.proofs.lemmas.Bool.Decides.{nat_tests}
use Rattle.std.proofs.lemmas.List.{length-map}
use Rattle.std.proofs.lemmas.List.Sums.{sum_by-cons, sum_by-take-drop, sum_by_more, count_by-le-length}
use Rattle.vx_base.specs.declared.ptype.PType.{PType}
use Rattle.vx_base.specs.Digits.{digits}
use Rattle.vx_base.proofs.DigitsLemmas.{le-digits}
use Rattle.vx_base.specs.Integers.{bits_in, bits_of, lies_in}
use Rattle.vx_base.specs.Packed.{is_wide, kept_row, kept_rows, wide_rows}
use Rattle.vx_blocks.specs.Histogram.{IsHistogram}
use Rattle.vx_blocks.proofs.Rows.{kept_row-fits, kept_rows-get, length-kept_rows}
use Rattle.vx_schemes_common.proofs.DigitLemmas.{word_bits}
use Rattle.vx_schemes.specs.BitPacking.Tree.{is_negative}

-- ---- the entries up to a number of digits count the rows with fewer

one_more : (d n : ℕ) → cond {A = ℕ} (nat_lt d n) 1 0 + cond {A = ℕ} (d == n) 1 0 ≡ cond (nat_lt d (n + 1)) 1 0
one_more d n = grind (arith, nat_tests)

none_below : (rows : List ℕ) → count_by (λ row. nat_lt (digits row) 0) rows ≡ 0
none_below [] = refl
none_below (row ∷ rows) = let no : nat_lt (digits row) 0 ≡ false = grind (arith, nat_tests) in rw no (none_below rows)

counts_more : (n : ℕ) (rows : List ℕ) → count_by (λ row. nat_lt (digits row) n) rows + count_by (λ row. digits row == n) rows ≡ count_by (λ row. nat_lt (digits row) (n + 1)) rows
counts_more n [] = refl
counts_more n (row ∷ rows) =
    let below = sum_by-cons (λ r. cond {A = ℕ} (nat_lt (digits r) n) 1 0) row rows in
    let at = sum_by-cons (λ r. cond {A = ℕ} (digits r == n) 1 0) row rows in
    let both = sum_by-cons (λ r. cond {A = ℕ} (nat_lt (digits r) (n + 1)) 1 0) row rows in
    omega (arith, counts_more n rows, one_more (digits row) n, below, at, both)

module _ (width : ℕ) (rows counts : List ℕ) (h : IsHistogram width rows counts) where
  counted : (n : ℕ) → n ≤ width + 1 → sum (take n counts) ≡ count_by (λ row. nat_lt (digits row) n) rows
  counted zero small = sym (none_below rows)
  counted (suc n) small =
      let on : n + 1 ≡ suc n = omega arith in
      subst (λ m. sum (take m counts) ≡ count_by (λ row. nat_lt (digits row) m) rows) on
      (omega (arith, sum_by_more (λ x. x) counts n 0 (omega (arith, h.size)), counted n (omega arith), h.each n (omega arith), counts_more n rows))

all_counted : (q : ℕ → Bool) (rows : List ℕ) → count_by q rows ≡ length rows → (i : ℕ) → i < length rows → q (get_or rows i 0) ≡ true
all_counted q [] e i l = absurd (omega arith)
all_counted q (row ∷ rows) e i l = by_test (q row) refl (sym (sum_by-cons (λ r. cond {A = ℕ} (q r) 1 0) row rows) ∙ e) (all_counted q rows) i l
  where
    by_test : (b : Bool) → q row ≡ b → cond {A = ℕ} b 1 0 + count_by q rows ≡ suc (length rows) → (count_by q rows ≡ length rows → (k : ℕ) → k < length rows → q (get_or rows k 0) ≡ true)
        → (k : ℕ) → k < suc (length rows) → q (get_or (row ∷ rows) k 0) ≡ true
    by_test true is f rest zero m = is
    by_test true is f rest (suc k) m = rest (omega arith) k (omega arith)
    by_test false is f rest k m = absurd (omega (arith, count_by-le-length q rows))

-- entries that are all 0 count nothing
pub none_counted : (counts : List ℕ) → list_any (λ count. not (count == 0)) counts ≡ false → sum counts ≡ 0
none_counted [] h = refl
none_counted (count ∷ counts) h =
    let parts = or_parts (not (count == 0)) _ h in
    let zero_here : count ≡ 0 = grind (arith, nat_tests, parts.0) in
    omega (arith, zero_here, none_counted counts parts.1, sum_by-cons (λ n. n) count counts)

-- where the entries above a width count nothing, each row has at most width digits
few_digits : (width all : ℕ) (rows counts : List ℕ) → IsHistogram all rows counts → width ≤ all → sum (drop (width + 1) counts) ≡ 0 → (i : ℕ) → i < length rows → nat_lt (digits (get_or rows i 0)) (width + 1) ≡ true
few_digits width all rows counts h within none =
    all_counted (λ row. nat_lt (digits row) (width + 1)) rows (omega (arith, counted all rows counts h (width + 1) (omega arith), sum_by-take-drop (λ x. x) counts (width + 1), none, h.total))

-- ---- so none is wider

below_power : (row width : ℕ) → row < 2 ^ 64 → nat_lt (digits row) (width + 1) ≡ true → row < 2 ^ width
below_power row width h few =
    let fewer : digits row < width + 1 = ltb-true _ _ few in
    le-digits row width (omega arith)

not_wide : (width bits : ℕ) (valid : Bool) → bits < 2 ^ 64 → nat_lt (digits (kept_row 64 bits valid)) (width + 1) ≡ true → is_wide width bits valid ≡ false
not_wide width bits false h few = refl
not_wide width bits true h few =
    let kept : kept_row 64 bits true ≡ bits = kept_row-fits 64 bits true refl h in
    let small : nat_lt bits (2 ^ width) ≡ true = lt-ltb _ _ (below_power bits width h (rw kept at few)) in
    rw small refl

filter-none : (q : ℕ → Bool) (start n : ℕ) → ((i : ℕ) → i < start + n → q i ≡ false) → filter q (range_with_len start n) ≡ []
filter-none q start zero h = refl
filter-none q start (suc n) h = rw (h start (omega arith)) (filter-none q (start + 1) n (λ i l. h i (omega arith)))

natural_word : (p : PType) (z : ℤ) → lies_in p z ≡ true → is_negative z ≡ false → bits_in p z < 2 ^ 64
natural_word p (pos n) held natural = omega (arith, ltb-true _ _ held, word_bits p)
natural_word p (negsuc n) held natural = absurd (no natural)
  where
    no : true ≡ false → ⊥
    no e = cc

words : (p : PType) (xs : List ℤ) (i : ℕ) → list_all (lies_in p) xs ≡ true → list_any is_negative xs ≡ false → i < length xs → get_or (map (bits_in p) xs) i 0 < 2 ^ 64
words p [] i held natural l = absurd (omega arith)
words p (x ∷ xs) zero held natural l = natural_word p x (and_parts (lies_in p x) _ held).0 (or_parts (is_negative x) _ natural).0
words p (x ∷ xs) (suc i) held natural l = words p xs i (and_parts (lies_in p x) _ held).1 (or_parts (is_negative x) _ natural).1 (omega arith)

pub none_wider : (p : PType) (width : ℕ) (xs : List ℤ) (valid : List Bool) (counts : List ℕ) → length valid ≡ length xs → list_all (lies_in p) xs ≡ true → list_any is_negative xs ≡ false
    → IsHistogram (bits_of p) (kept_rows 64 (map (bits_in p) xs) valid) counts → width ≤ bits_of p → sum (drop (width + 1) counts) ≡ 0 → wide_rows width (map (bits_in p) xs) valid ≡ []
none_wider p width xs valid counts same held natural h within none =
    let bits = map (bits_in p) xs in
    let long : length bits ≡ length xs = length-map xs (bits_in p) in
    filter-none _ 0 (length bits) (λ i l.
    not_wide width (get_or bits i 0) (get_or valid i false) (words p xs i held natural (omega (arith, long, l)))
    (subst (λ row. nat_lt (digits row) (width + 1) ≡ true) (kept_rows-get 64 bits valid i (same ∙ sym long) (omega arith))
    (few_digits width (bits_of p) (kept_rows 64 bits valid) counts h within none i (omega (arith, l, length-kept_rows 64 bits valid (same ∙ sym long))))))
