-- Rows that are counted and packed by blocks.
use Rattle.std.proofs.Common.{◌≡◌, ◌∙◌, ◌+◌, ◌-◌, ◌*◌, ◌≤◌, ℕ, zero, suc, Bool, true, List, [], ◌∷◌, ◌++◌, length, take, drop, replicate, refl, sym, ap, arith, length-append}
use Rattle.std.proofs.lemmas.List.Folds.{sum_by-replicate}
use Rattle.std.proofs.lemmas.List.{length-take-le, length-drop, length-replicate, get_or-replicate, take-append-le, take_all}
use Rattle.vx_base.specs.Packed.{block_count, kept_row, kept_rows, packed_size}
use Rattle.vx_blocks.specs.Histogram.{IsHistogram}
use Rattle.vx_blocks.specs.IsPacked.{IsPacked}
use Rattle.vx_blocks.proofs.Joins.{packed_number-append, packed_number-group}

-- ---- a part of the rows

kept-none : (w : ℕ) (bits : List ℕ) → kept_rows w bits [] ≡ []
kept-none w [] = refl
kept-none w (b ∷ bits) = refl

kept-drop : (w s : ℕ) (bits : List ℕ) (valid : List Bool) → kept_rows w (drop s bits) (drop s valid) ≡ drop s (kept_rows w bits valid)
kept-drop w zero bits valid = refl
kept-drop w (suc s) [] valid = refl
kept-drop w (suc s) (b ∷ bits) [] = kept-none w (drop s bits)
kept-drop w (suc s) (b ∷ bits) (v ∷ valid) = kept-drop w s bits valid

kept-take : (w n : ℕ) (bits : List ℕ) (valid : List Bool) → kept_rows w (take n bits) (take n valid) ≡ take n (kept_rows w bits valid)
kept-take w zero bits valid = refl
kept-take w (suc n) [] valid = refl
kept-take w (suc n) (b ∷ bits) [] = refl
kept-take w (suc n) (b ∷ bits) (v ∷ valid) = ap (λ l. kept_row w b v ∷ l) (kept-take w n bits valid)

pub kept-part : (w s n : ℕ) (bits : List ℕ) (valid : List Bool) → kept_rows w (take n (drop s bits)) (take n (drop s valid)) ≡ take n (drop s (kept_rows w bits valid))
kept-part w s n bits valid = kept-take w n (drop s bits) (drop s valid) ∙ ap (take n) (kept-drop w s bits valid)

-- ---- histograms

pub histogram-none : (width : ℕ) → IsHistogram width [] (replicate (width + 1) 0)
histogram-none width = record {
  size = omega (arith, length-replicate {A = ℕ} (width + 1) 0);
  each = λ w below. get_or-replicate {A = ℕ} (width + 1) w 0 0 below;
  total = omega (arith, sum_by-replicate (λ n. n) (width + 1) 0);
}

-- ---- packed rows

-- whole blocks end with a byte
whole_blocks : (w b : ℕ) → 8 * packed_size w (1024 * b) ≡ w * (1024 * b)
whole_blocks w b = let e : block_count (1024 * b) ≡ b = omega arith in rw e (omega arith)

size-more : (w b n : ℕ) → packed_size w (1024 * b) + packed_size w n ≡ packed_size w (1024 * b + n)
size-more w b n =
    let front : block_count (1024 * b) ≡ b = omega arith in
    let all : block_count (1024 * b + n) ≡ b + block_count n = omega arith in
    rw (front, all) (omega arith)

pub packed-none : (w : ℕ) → IsPacked w [] []
packed-none w = record { number = refl; size = omega arith }

pub packed-append : (w b n : ℕ) (rows front more : List ℕ) → 1024 * b + n ≤ length rows → IsPacked w (take (1024 * b) rows) front → IsPacked w (take n (drop (1024 * b) rows)) more → IsPacked w (take (1024 * b + n) rows) (front ++ more)
packed-append w b n rows front more room h k =
    let s = 1024 * b in
    let first : length (take s rows) ≡ s = length-take-le s rows (omega arith) in
    let last : length (take n (drop s rows)) ≡ n = length-take-le n (drop s rows) (omega (arith, length-drop s rows)) in
    let all : length (take (s + n) rows) ≡ s + n = length-take-le (s + n) rows room in
    let size : length front ≡ packed_size w s = h.size ∙ ap (packed_size w) first in
    let place : 8 * length front ≡ w * s = ap (λ m. 8 * m) size ∙ whole_blocks w b in
    record {
      number = packed_number-append 8 front more ∙ rw (place, h.number, k.number) (sym (packed_number-group w rows s n (omega arith)));
      size = length-append front more ∙ rw (size, k.size, last, all) (size-more w b n);
    }

-- ---- rows without a null

drop-all : (s n : ℕ) → drop s (replicate (s + n) true) ≡ replicate n true
drop-all zero n = ap (λ k. replicate k true) (omega arith)
drop-all (suc s) n = let e : suc s + n ≡ suc (s + n) = omega arith in ap (λ k. drop (suc s) (replicate k true)) e ∙ drop-all s n

take-all : (n m : ℕ) → take n (replicate (n + m) true) ≡ replicate n true
take-all zero m = refl
take-all (suc n) m = let e : suc n + m ≡ suc (n + m) = omega arith in ap (λ k. take (suc n) (replicate k true)) e ∙ ap (λ l. true ∷ l) (take-all n m)

pub part-all : (len start end : ℕ) → start ≤ end → end ≤ len → take (end - start) (drop start (replicate len true)) ≡ replicate (end - start) true
part-all len start end order room =
    let e : len ≡ start + (end - start + (len - end)) = omega arith in
    ap (λ k. take (end - start) (drop start (replicate k true))) e ∙ ap (take (end - start)) (drop-all start (end - start + (len - end))) ∙ take-all (end - start) (len - end)

-- ---- a list that is written over whole

pub written-all : {X : Type 0} (items new : List X) (len : ℕ) → len ≡ length items → length new ≡ length items → take len (new ++ drop (length new) items) ≡ new
written-all items new len e l = take-append-le len new (drop (length new) items) (omega arith) ∙ take_all len new (omega arith)
