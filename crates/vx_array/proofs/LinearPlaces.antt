-- The places of runs in blocks with linear indices: by the first and the last row of a block, and of linear offsets by those of the first
-- and the last block.
use Rattle.std.proofs.Common.{◌≡◌, ◌∙◌, inl, inr, ◌<◌, ◌≤◌, ◌+◌, ◌-◌, ◌*◌, ◌/◌, ℕ, ℤ, List, length, Bool, true, false, min, refl, sym, ap, subst, arith}
use Rattle.std.specs.Prelude.{◌+ℤ◌, ◌&&◌}
use Rattle.std.specs.List.{list_all}
use Rattle.std.proofs.lemmas.Bool.{cases_lt, and_cases, and_parts}
use Rattle.vx_base.specs.Packed.{block_count}
use Rattle.vx_base.specs.PlainValue.{PlainValue, int}
use Rattle.vx_model.specs.Rows.{below, block_rows, rle_place}
use Rattle.vx_model.specs.WellFormed.{is_place}
use Rattle.vx_flat.proofs.RunPlaces.{passing, passing-fails}
use Rattle.vx_array.specs.Linear.{IsLinear, has_place, block_end}
use Rattle.vx_array.proofs.LinearRows.{whole_at, line-linear, convex-is_place}
use Rattle.vx_array.proofs.Lines.{IsLine, line-front, line-level, line-part, line-passes, line-sum}

module _ (values : ℕ) (os is : List PlainValue) (len : ℕ) (linear : IsLinear is) (enough : len ≤ length is) where
  abbrev place : ℕ → ℤ
  place i = whole_at os (i / block_rows) +ℤ whole_at is i

  abbrev passes : ℤ → Bool
  passes z = is_place values (int z)

  -- the rows of a block lie between its first and its last
  pub block-passes : (block i : ℕ) → i < len → i / block_rows ≡ block → has_place values os is (block_rows * block) ≡ true → has_place values os is (block_end len block) ≡ true → has_place values os is i ≡ true
  block-passes block i l at a b =
      subst (λ z. passes z ≡ true) (own i at (omega arith))
      (line-passes passes (convex-is_place values) f count (i - start) (count - 1) line (omega arith) (omega arith) (subst (λ z. passes z ≡ true) (sym first) a) (subst (λ z. passes z ≡ true) (sym last) b))
    where
      start : ℕ
      start = block_rows * block

      count : ℕ
      count = min (len - start) block_rows

      f : ℕ → ℤ
      f j = whole_at os block +ℤ whole_at is (1 * j + start)

      line : IsLine f count
      line =
          line-sum (λ j. whole_at os block) (λ j. whole_at is (1 * j + start)) count (line-level (whole_at os block) count)
          (line-part (whole_at is) (length is) count 1 start (line-linear is linear) (λ j m. omega arith))

      own : (k : ℕ) → k / block_rows ≡ block → start ≤ k → f (k - start) ≡ place k
      own k e m = let same : 1 * (k - start) + start ≡ k = omega arith in λ j. whole_at os (sym e j) +ℤ whole_at is (same j)

      first : f 0 ≡ place start
      first = let none : 0 ≡ start - start = omega arith in ap f none ∙ own start (omega arith) (omega arith)

      last : f (count - 1) ≡ place (block_end len block)
      last = let same : count - 1 ≡ block_end len block - start = omega arith in ap f same ∙ own (block_end len block) (omega arith) (omega arith)

  -- of linear offsets, the first rows of blocks lie between those of the first and the last block, and so do the last rows of full ones
  module _ (linear_offsets : IsLinear os) (blocks : length os ≡ block_count len) (last : ℕ) (is_last : last ≡ (len - 1) / block_rows) (some : 0 < len)
      (begin : has_place values os is 0 ≡ true) (begin_end : has_place values os is (block_end len 0) ≡ true)
      (last_begin : has_place values os is (block_rows * last) ≡ true) (last_end : has_place values os is (block_end len last) ≡ true)
      (before : 0 < last → has_place values os is (block_rows * last - 1) ≡ true) where
    abbrev starts : ℕ → ℤ
    starts q = whole_at os q +ℤ whole_at is (block_rows * q + 0)

    starts_line : IsLine starts (last + 1)
    starts_line =
        line-sum (whole_at os) (λ q. whole_at is (block_rows * q + 0)) (last + 1) (line-front (whole_at os) (length os) (last + 1) (line-linear os linear_offsets) (omega (arith, blocks, is_last)))
        (line-part (whole_at is) (length is) (last + 1) block_rows 0 (line-linear is linear) (λ q m. omega (arith, is_last)))

    starts_at : (q : ℕ) → starts q ≡ place (block_rows * q)
    starts_at q =
        let block : q ≡ block_rows * q / block_rows = omega arith in
        let row : block_rows * q + 0 ≡ block_rows * q = omega arith in
        λ j. whole_at os (block j) +ℤ whole_at is (row j)

    start-passes : (q : ℕ) → q ≤ last → has_place values os is (block_rows * q) ≡ true
    start-passes q l =
        subst (λ z. passes z ≡ true) (starts_at q)
        (line-passes passes (convex-is_place values) starts (last + 1) q last starts_line l (omega arith) (subst (λ z. passes z ≡ true) (sym (starts_at 0)) begin) (subst (λ z. passes z ≡ true) (sym (starts_at last)) last_begin))

    abbrev ends : ℕ → ℤ
    ends q = whole_at os q +ℤ whole_at is (block_rows * q + 1023)

    ends_line : IsLine ends last
    ends_line =
        line-sum (whole_at os) (λ q. whole_at is (block_rows * q + 1023)) last (line-front (whole_at os) (length os) last (line-linear os linear_offsets) (omega (arith, blocks, is_last)))
        (line-part (whole_at is) (length is) last block_rows 1023 (line-linear is linear) (λ q m. omega (arith, is_last)))

    ends_at : (q k : ℕ) → k ≡ block_rows * q + 1023 → ends q ≡ place k
    ends_at q k e =
        let block : q ≡ k / block_rows = omega arith in
        λ j. whole_at os (block j) +ℤ whole_at is (sym e j)

    end-passes : (q : ℕ) → q < last → has_place values os is (block_end len q) ≡ true
    end-passes q l =
        let own : block_end len q ≡ block_rows * q + 1023 = omega (arith, is_last) in
        let of_first : block_end len 0 ≡ block_rows * 0 + 1023 = omega (arith, is_last) in
        let of_last : block_rows * last - 1 ≡ block_rows * (last - 1) + 1023 = omega arith in
        subst (λ z. passes z ≡ true) (ends_at q (block_end len q) own)
        (line-passes passes (convex-is_place values) ends last q (last - 1) ends_line (omega arith) (omega arith)
        (subst (λ z. passes z ≡ true) (sym (ends_at 0 (block_end len 0) of_first)) begin_end) (subst (λ z. passes z ≡ true) (sym (ends_at (last - 1) (block_rows * last - 1) of_last)) (before (omega arith))))

    corner-passes : (i : ℕ) → i < len → has_place values os is i ≡ true
    corner-passes i l =
        elim (cases_lt (i / block_rows) last) [
          | inl less ↦ block-passes (i / block_rows) i l refl (start-passes (i / block_rows) (omega arith)) (end-passes (i / block_rows) less)
          | inr more ↦ let same : i / block_rows ≡ last = omega (arith, is_last) in block-passes last i l same last_begin last_end
        ]

    pub corners-pass : list_all (is_place values) (below (rle_place os is) len) ≡ true
    corners-pass = passing (is_place values) (rle_place os is) len corner-passes

  -- blocks whose first and last rows pass
  pub blocks-pass : ((block : ℕ) → block_rows * block < len → (has_place values os is (block_rows * block) ≡ true) × (has_place values os is (block_end len block) ≡ true)) → list_all (is_place values) (below (rle_place os is) len) ≡ true
  blocks-pass each =
      passing (is_place values) (rle_place os is) len (λ i l. let b = each (i / block_rows) (omega arith) in block-passes (i / block_rows) i l refl b.0 b.1)

pub places-fail : (values : ℕ) (os is : List PlainValue) (len i : ℕ) → i < len → has_place values os is i ≡ false → list_all (is_place values) (below (rle_place os is) len) ≡ false
places-fail values os is len i l fails = passing-fails (is_place values) (rle_place os is) len i l fails

-- a block of which the first or the last row fails
pub block-fails : (values : ℕ) (os is : List PlainValue) (len block : ℕ) → block_rows * block < len → (has_place values os is (block_rows * block) && has_place values os is (block_end len block)) ≡ false
    → list_all (is_place values) (below (rle_place os is) len) ≡ false
block-fails values os is len block l e =
    elim (and_cases (has_place values os is (block_rows * block)) (has_place values os is (block_end len block)) e) [
      | inl f ↦ places-fail values os is len (block_rows * block) l f
      | inr f ↦ places-fail values os is len (block_end len block) (omega arith) f
    ]

pub places-none : (values : ℕ) (os is : List PlainValue) (len : ℕ) → len ≡ 0 → list_all (is_place values) (below (rle_place os is) len) ≡ true
places-none values os is len none = ap (λ n. list_all (is_place values) (below (rle_place os is) n)) none

-- one block
pub one-block : (values : ℕ) (os is : List PlainValue) (len : ℕ) → IsLinear is → len ≤ length is → (len - 1) / block_rows ≡ 0 → (has_place values os is (block_rows * 0) && has_place values os is (block_end len 0)) ≡ true
    → list_all (is_place values) (below (rle_place os is) len) ≡ true
one-block values os is len linear enough one e =
    blocks-pass values os is len linear enough (λ b l. (
    let first : b ≡ 0 = omega (arith, one, l) in
    subst (λ k. (has_place values os is (block_rows * k) ≡ true) × (has_place values os is (block_end len k) ≡ true)) (sym first) (and_parts (has_place values os is (block_rows * 0)) (has_place values os is (block_end len 0)) e)
    ))

-- the last block of several
pub last-block : (values : ℕ) (os is : List PlainValue) (len last : ℕ) → IsLinear is → IsLinear os → len ≤ length is → length os ≡ block_count len → last ≡ (len - 1) / block_rows → 0 < len
    → (has_place values os is (block_rows * 0) && has_place values os is (block_end len 0)) ≡ true → has_place values os is (block_rows * last - 1) ≡ true
    → list_all (is_place values) (below (rle_place os is) len) ≡ (has_place values os is (block_rows * last) && has_place values os is (block_end len last))
last-block values os is len last linear linear_offsets enough blocks is_last some first before = pick (has_place values os is (block_rows * last) && has_place values os is (block_end len last)) refl
  where
    pick : (b : Bool) → (has_place values os is (block_rows * last) && has_place values os is (block_end len last)) ≡ b → list_all (is_place values) (below (rle_place os is) len) ≡ b
    pick true e =
        let a = and_parts (has_place values os is (block_rows * 0)) (has_place values os is (block_end len 0)) first in
        let z = and_parts (has_place values os is (block_rows * last)) (has_place values os is (block_end len last)) e in
        let none : block_rows * 0 ≡ 0 = omega arith in
        corners-pass values os is len linear enough linear_offsets blocks last is_last some (ap (has_place values os is) (sym none) ∙ a.0) a.1 z.0 z.1 (λ l. before)
    pick false e = block-fails values os is len last (omega (arith, is_last, some)) e
