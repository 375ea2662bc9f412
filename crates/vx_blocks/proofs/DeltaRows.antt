-- Rows that are filled, and their bases and deltas, one after another.
use Rattle.std.proofs.Common.{◌≡◌, ◌≢◌, ℕ, zero, suc, ◌+◌, ◌-◌, ◌*◌, ◌%◌, ◌<◌, ◌≤◌, ℤ, pos, ◌-ℤ◌, Bool, true, false, cond, List, [], ◌∷◌, ◌++◌, length, map, get_or, take, replicate, refl, sym, ap, ◌∙◌, arith, add-one}
use Rattle.std.specs.Prelude.{◌==◌, nat_le, ◌||◌, Option, Some, None}
use Rattle.std.specs.List.{range_with_len}
use Rattle.std.proofs.lemmas.Bool.{eq-eqb, ne_eqb, lt-ltb}
use Rattle.std.proofs.lemmas.Bool.Decides.{nat_tests}
use Rattle.std.proofs.lemmas.Int.{ints}
use Rattle.std.proofs.lemmas.Nat.{pow_pos}
use Rattle.std.proofs.lemmas.List.{length-map}
use Rattle.std.proofs.lemmas.List.FromFn.{length-map-range_with_len}
use Rattle.vx_base.specs.declared.ptype.PType.{PType}
use Rattle.vx_base.specs.Integers.{natural_bits, lies_in}
use Rattle.vx_base.specs.Packed.{block_count}
use Rattle.vx_base.specs.Wrapping.{wrap}
use Rattle.vx_base.proofs.WrapLemmas.{wrap-same}
use Rattle.vx_blocks.specs.Deltas.{filled_after, filled, bases, delta, deltas}
use Rattle.vx_blocks.specs.Optional.{optional_row}
use Rattle.vx_blocks.proofs.Ranges.{resized}

pub length-filled_after : (last : ℤ) (rows : List (Option ℤ)) → length (filled_after last rows) ≡ length rows
length-filled_after last [] = refl
length-filled_after last (None ∷ rows) = let ih = length-filled_after last rows in omega arith
length-filled_after last (Some z ∷ rows) = let ih = length-filled_after z rows in omega arith

-- the whole number of a row, or the last one before it
abbrev pub or_last : Option ℤ → ℤ → ℤ
or_last None last = last
or_last (Some z) last = z

-- the row before a row, and a given number before the first
abbrev pub before : ℤ → List ℤ → ℕ → ℤ
before last rows i = get_or (last ∷ rows) i (pos 0)

pub filled-row : (last : ℤ) (rows : List (Option ℤ)) (i : ℕ) → i < length rows → get_or (filled_after last rows) i (pos 0) ≡ or_last (get_or rows i None) (before last (filled_after last rows) i)
filled-row last [] i h = absurd (omega arith)
filled-row last (None ∷ rows) zero h = refl
filled-row last (Some z ∷ rows) zero h = refl
filled-row last (None ∷ rows) (suc i) h = filled-row last rows i (omega arith)
filled-row last (Some z ∷ rows) (suc i) h = filled-row z rows i (omega arith)

or_last-row : (valid : Bool) (z last : ℤ) → or_last (optional_row z valid) last ≡ cond valid z last
or_last-row true z last = refl
or_last-row false z last = refl

-- the filled row that a loop computes from its item
pub filled-item : (rows : List (Option ℤ)) (i : ℕ) (valid : Bool) (z last item : ℤ) → i < length rows → optional_row z valid ≡ get_or rows i None → last ≡ before (pos 0) (filled rows) i → item ≡ cond valid z last
    → item ≡ get_or (filled rows) i (pos 0)
filled-item rows i valid z last item h is so_far made = made ∙ sym (or_last-row valid z last) ∙ (λ k. or_last (is k) (so_far k)) ∙ sym (filled-row (pos 0) rows i h)

-- a row that is valid
pub filled-valid : (rows : List (Option ℤ)) (i : ℕ) (valid : Bool) (z : ℤ) → i < length rows → valid ≡ true → optional_row z valid ≡ get_or rows i None → z ≡ get_or (filled rows) i (pos 0)
filled-valid rows i valid z h all is = filled-item rows i valid z (before (pos 0) (filled rows) i) z h is refl (sym (ap (λ b. cond b z (before (pos 0) (filled rows) i)) all))

pub before-next : (last : ℤ) (rows : List ℤ) (i : ℕ) → before last rows (i + 1) ≡ get_or rows i (pos 0)
before-next last rows i = ap (before last rows) (add-one i)

before-at : (rows : List ℤ) (i : ℕ) → i % 1024 ≢ 0 → before (pos 0) rows i ≡ get_or rows (i - 1) (pos 0)
before-at rows zero h = absurd (h refl)
before-at rows (suc i) h = let same : i ≡ suc i - 1 = omega arith in ap (λ k. get_or rows k (pos 0)) same

-- a row that is made of its item and the row before it, the first row of a block of itself
pub filled-from : (rows : List (Option ℤ)) (i : ℕ) (valid : Bool) (z last item : ℤ) → i < length rows → optional_row z valid ≡ get_or rows i None
    → (i % 1024 ≡ 0 → last ≡ get_or (filled rows) i (pos 0)) → (i % 1024 ≢ 0 → last ≡ get_or (filled rows) (i - 1) (pos 0)) → item ≡ cond valid z last → item ≡ get_or (filled rows) i (pos 0)
filled-from rows i true z last item h is first other made = made ∙ filled-valid rows i true z h refl is
filled-from rows i false z last item h is first other made = by_test (i % 1024 == 0) refl
  where
    by_test : (b : Bool) → (i % 1024 == 0) ≡ b → item ≡ get_or (filled rows) i (pos 0)
    by_test true test = let at : i % 1024 ≡ 0 = grind (arith, nat_tests) in made ∙ first at
    by_test false test = let at : i % 1024 ≢ 0 = grind (arith, nat_tests) in filled-item rows i false z last item h is (other at ∙ sym (before-at (filled rows) i at)) made

pub zero-held : (kind : PType) → lies_in kind (pos 0) ≡ true
zero-held kind = lt-ltb _ _ (pow_pos (natural_bits kind))

module _ (kind : PType) (rows : List ℤ) where
  -- the delta that a loop makes of a row, at a block's first and at another
  pub delta-first : (i : ℕ) → i % 1024 ≡ 0 → pos 0 ≡ delta kind rows i
  delta-first i first = rw (eq-eqb (i % 1024) 0 first) refl

  pub delta-next : (i : ℕ) (item last made : ℤ) → i < length rows → i % 1024 ≢ 0 → item ≡ get_or rows i (pos 0) → last ≡ before (pos 0) rows i → made ≡ wrap kind (item -ℤ last) → made ≡ delta kind rows i
  delta-next i item last made h other is so_far e =
      let within : nat_le (length rows) i ≡ false = grind (arith, nat_tests) in
      let more = before-at rows i other in
      e ∙ rw (ne_eqb (i % 1024) 0 other, within) (λ k. wrap kind (is k -ℤ (so_far ∙ more) k))

  -- the first row of a block, whose delta is from itself
  pub delta-from : (i : ℕ) (item last made : ℤ) → i < length rows → (i % 1024 ≡ 0 → last ≡ get_or rows i (pos 0)) → (i % 1024 ≢ 0 → last ≡ get_or rows (i - 1) (pos 0)) → item ≡ get_or rows i (pos 0) → made ≡ wrap kind (item -ℤ last)
      → made ≡ delta kind rows i
  delta-from i item last made h first other is e = by_test (i % 1024 == 0) refl
    where
      by_test : (b : Bool) → (i % 1024 == 0) ≡ b → made ≡ delta kind rows i
      by_test true test =
          let at : i % 1024 ≡ 0 = grind (arith, nat_tests) in
          let row = first at in
          let none : item -ℤ last ≡ pos 0 = omega (arith, ints, is, row) in
          e ∙ ap (wrap kind) none ∙ wrap-same kind (pos 0) (zero-held kind) ∙ delta-first i at
      by_test false test = let at : i % 1024 ≢ 0 = grind (arith, nat_tests) in delta-next i item last made h at is (other at ∙ sym (before-at rows i at)) e

  -- no row is left
  delta-none : (i : ℕ) → length rows ≤ i → delta kind rows i ≡ pos 0
  delta-none i h = let e : nat_le (length rows) i ≡ true = grind (arith, nat_tests) in by_test (i % 1024 == 0) (nat_le (length rows) i) e
    where
      by_test : (b c : Bool) → c ≡ true → cond (b || c) (pos 0) (wrap kind (get_or rows i (pos 0) -ℤ get_or rows (i - 1) (pos 0))) ≡ pos 0
      by_test true c f = refl
      by_test false c f = rw f refl

  pub deltas-filled : {X : Type 0} (g : X → ℤ) (items made : List X) (x : X) (n size len : ℕ) → n ≡ length rows → size ≡ 1024 * block_count (length rows) → len ≡ length items → g x ≡ pos 0
      → map g items ≡ map (delta kind rows) (range_with_len 0 n) → made ≡ take size items ++ replicate (size - len) x → map g made ≡ deltas kind rows
  deltas-filled g items made x n size len all room long is so_far made-is =
      resized (delta kind rows) (pos 0) g items made x n size len (omega arith) (λ k h. delta-none k (omega arith)) long is so_far made-is ∙ ap (λ m. map (delta kind rows) (range_with_len 0 m)) room

  -- 1,024 deltas for each base
  pub deltas-for-bases : {X : Type 0} (g : X → ℤ) (few many : List X) → map g few ≡ bases rows → map g many ≡ deltas kind rows → length many ≡ 1024 * length few
  deltas-for-bases g few many a b =
      let few-len : length few ≡ block_count (length rows) = sym (length-map few g) ∙ ap length a ∙ length-map-range_with_len (λ block. get_or rows (1024 * block) (pos 0)) 0 (block_count (length rows)) in
      let many-len : length many ≡ 1024 * block_count (length rows) = sym (length-map many g) ∙ ap length b ∙ length-map-range_with_len (delta kind rows) 0 (1024 * block_count (length rows)) in
      omega (arith, few-len, many-len)
