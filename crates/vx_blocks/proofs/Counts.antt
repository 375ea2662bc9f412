use Rattle.std.proofs.Common.{◌≡◌, ℕ, zero, suc, ◌+◌, ◌-◌, ◌^◌, ◌<◌, ◌≤◌, Bool, true, false, List, [], ◌∷◌, ◌++◌, length, get_or, sum, set, take, drop, subst, replicate, cond, ap, ◌∙◌, refl, arith, get_or-set_other, get_or-set_same, eqb, inl, inr}
use Rattle.std.proofs.Math.ListN.{length-set}
use Rattle.std.proofs.lemmas.Bool.{cases_eq}
use Rattle.std.proofs.lemmas.Bool.Decides.{nat_tests}
use Rattle.std.proofs.lemmas.List.Sums.{sum_by-append, sum_by_push, sum_by-set, sum_by_more, sum_by-take-le}
use Rattle.std.proofs.lemmas.List.Folds.{sum_by-replicate}
use Rattle.std.proofs.lemmas.List.{length-append, length-take, length-drop, take-append-drop, length-take-le, set-get_or, take-set-le, get_or-take, get_or-replicate}
use Rattle.std.proofs.lemmas.Nat.{leading_le}
use Rattle.std.specs.Int.Count.{count_leading_zeros}
use Rattle.vx_base.specs.Digits.{digits}
use Rattle.vx_base.proofs.DigitsLemmas.{digits-le, digits-leading}
use Rattle.vx_base.specs.Packed.{kept_row}
use Rattle.vx_blocks.specs.Histogram.{AreByZeros, IsHistogram}
use Rattle.vx_blocks.proofs.Rows.{kept_row-fits}
use mir.Val.{bool_byte}

-- ---- one row more
by_zeros-counted : (width : ℕ) (rows counts : List ℕ) (row place : ℕ) → AreByZeros width rows counts → length counts ≡ 65 → place ≡ count_leading_zeros 64 row → row < 2 ^ 64 → digits row ≤ width
    → AreByZeros width (rows ++ row ∷ []) (set counts place (get_or counts place 0 + 1))
by_zeros-counted width rows counts row place h size is held small =
    let leading : digits row ≡ 64 - count_leading_zeros 64 row = digits-leading row held in
    let le : place ≤ 64 = omega (arith, leading_le 64 row) in
    let room : place < length counts = omega arith in
    let more = sum_by-set (λ x. x) counts place (get_or counts place 0 + 1) 0 room in
    let len = length-append rows (row ∷ []) in
    record {
      each = λ w some below.
          let push = sum_by_push (λ r. cond (eqb (digits r) w) 1 0) rows row in
          elim (cases_eq (64 - w) place) [
            | inl same ↦
                let yes : eqb (digits row) w ≡ true = grind (arith, nat_tests) in
                rw (push, yes, same, get_or-set_same) (ap (λ n. n + 1) (rw same at (h.each w some below)))
            | inr other ↦
                let no : eqb (digits row) w ≡ false = grind (arith, nat_tests) in
                rw (push, no, get_or-set_other) (omega (arith, h.each w some below))
          ];
      left_out =
          let push = sum_by_push (λ r. cond (eqb (digits r) 0) 1 0) rows row in
          elim (cases_eq 64 place) [
            | inl same ↦
                let yes : eqb (digits row) 0 ≡ true = grind (arith, nat_tests) in
                rw (push, yes, same, get_or-set_same) (omega (arith, h.left_out, rw same at h.left_out, more, len))
            | inr other ↦
                let no : eqb (digits row) 0 ≡ false = grind (arith, nat_tests) in
                rw (push, no, get_or-set_other) (omega (arith, h.left_out, more, len))
          ];
      within = rw (take-set-le (64 - width) counts place (get_or counts place 0 + 1) (omega arith)) h.within;
      most = omega (arith, h.most, more, len);
    }

by_zeros-null : (width : ℕ) (rows counts : List ℕ) → AreByZeros width rows counts → AreByZeros width (rows ++ 0 ∷ []) counts
by_zeros-null width rows counts h =
    let len = length-append rows (0 ∷ []) in
    record {
      each = λ w some below.
          let no : eqb (digits 0) w ≡ false = grind (arith, nat_tests) in
          rw (sum_by_push (λ r. cond (eqb (digits r) w) 1 0) rows 0, no) (omega (arith, h.each w some below));
      left_out = rw (sum_by_push (λ r. cond (eqb (digits r) 0) 1 0) rows 0) (omega (arith, h.left_out, len));
      within = h.within;
      most = omega (arith, h.most, len);
    }

pub by_zeros-push : (width : ℕ) (rows counts : List ℕ) (bits : ℕ) (valid : Bool) → AreByZeros width rows counts → length counts ≡ 65 → bits < 2 ^ 64 → bits < 2 ^ width
    → AreByZeros width (rows ++ kept_row 64 bits valid ∷ []) (set counts (count_leading_zeros 64 bits) (get_or counts (count_leading_zeros 64 bits) 0 + bool_byte valid))
by_zeros-push width rows counts bits true h size held small =
    rw (kept_row-fits 64 bits true refl held) (by_zeros-counted width rows counts bits (count_leading_zeros 64 bits) h size refl held (digits-le bits width small))
by_zeros-push width rows counts bits false h size held small =
    let place = count_leading_zeros 64 bits in
    let same : set counts place (get_or counts place 0 + 0) ≡ counts = ap (set counts place) (omega arith) ∙ set-get_or counts place 0 in
    rw same (by_zeros-null width rows counts h)

pub by_zeros-none : (width : ℕ) → AreByZeros width [] (replicate 65 0)
by_zeros-none width =
    let none = sum_by-replicate (λ n. n) 65 0 in
    record {
      each = λ w some below. get_or-replicate {A = ℕ} 65 (64 - w) 0 0 (omega arith);
      left_out = omega (arith, none, get_or-replicate {A = ℕ} 65 64 0 0 (omega arith));
      within = omega (arith, none, sum_by-take-le (λ n. n) (replicate 65 0) (64 - width));
      most = omega (arith, none);
    }

-- ---- by digits
-- a write into the first items
pub take-set_within : (n : ℕ) (xs : List ℕ) (i x : ℕ) → i < n → take n (set xs i x) ≡ set (take n xs) i x
take-set_within zero xs i x h = absurd (omega arith)
take-set_within (suc n) [] i x h = refl
take-set_within (suc n) (y ∷ xs) zero x h = refl
take-set_within (suc n) (y ∷ xs) (suc i) x h = ap (λ l. y ∷ l) (take-set_within n xs i x (omega arith))

-- the first items still have the sum of all
pub sum-front : (n : ℕ) (xs : List ℕ) (i x : ℕ) → i < n → n ≤ length xs → sum (take n xs) ≡ sum xs → sum (take n (set xs i x)) ≡ sum (set xs i x)
sum-front n xs i x h room same =
    let whole = sum_by-set (λ n. n) xs i x 0 (omega arith) in
    let part = sum_by-set (λ n. n) (take n xs) i x 0 (omega (arith, length-take-le n xs room)) in
    ap sum (take-set_within n xs i x h) ∙ omega (arith, whole, part, get_or-take n xs i 0 h, same)

-- the entry of one width more, which is at k by leading zeros
pub sums-more : (counts first second : List ℕ) (w j k total : ℕ) → w < length counts → get_or counts w 0 ≡ 0 → j ≡ k + 1 → k < length first → k < length second
    → sum counts + sum (take j first) + sum (take j second) ≡ total → sum (set counts w (get_or first k 0 + get_or second k 0)) + sum (take k first) + sum (take k second) ≡ total
sums-more counts first second w j k total room none is lt less before =
    omega (arith, rw is at before, none, sum_by-set (λ n. n) counts w (get_or first k 0 + get_or second k 0) 0 room, sum_by_more (λ n. n) first k 0 lt, sum_by_more (λ n. n) second k 0 less)

-- of rows that were counted in two halves
pub halves-histogram : (width count start : ℕ) (rows first second counts : List ℕ) → ((front back : List ℕ) → AreByZeros width front first → AreByZeros width back second → length front + length back ≡ count → IsHistogram width (front ++ back) counts)
    → AreByZeros width (take start rows) first → AreByZeros width (drop start rows) second → length rows ≡ count → IsHistogram width rows counts
halves-histogram width count start rows first second counts made a b long =
    subst (λ l. IsHistogram width l counts) (take-append-drop start rows) (made (take start rows) (drop start rows) a b (omega (arith, long, length-take start rows, length-drop start rows)))

pub histogram-sum : (width : ℕ) (rows more first second counts : List ℕ) (count : ℕ) → AreByZeros width rows first → AreByZeros width more second → width ≤ 64 → length counts ≡ width + 1
    → ((w : ℕ) → w < width + 1 → get_or counts w 0 ≡ get_or first (64 - w) 0 + get_or second (64 - w) 0) → sum counts ≡ sum first + sum second → length rows + length more ≡ count
    → IsHistogram width (rows ++ more) (set counts 0 (get_or counts 0 0 + (count - sum counts)))
histogram-sum width rows more first second counts count h k wide size each total all =
    let room : 0 < length counts = omega arith in
    record {
      size = length-set counts 0 (get_or counts 0 0 + (count - sum counts)) ∙ size;
      each = λ w below.
          let both = sum_by-append (λ r. cond (eqb (digits r) w) 1 0) rows more in
          elim (cases_eq w 0) [
            | inl same ↦ rw (both, same, get_or-set_same) (omega (arith, each 0 (omega arith), h.left_out, k.left_out, h.most, k.most))
            | inr other ↦ rw (both, get_or-set_other) (omega (arith, each w below, h.each w (omega arith) (omega arith), k.each w (omega arith) (omega arith)))
          ];
      total = omega (arith, sum_by-set (λ x. x) counts 0 (get_or counts 0 0 + (count - sum counts)) 0 room, h.most, k.most, length-append rows more);
    }
