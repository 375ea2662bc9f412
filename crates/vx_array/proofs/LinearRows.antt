-- Rows in a line: what the first and the last tell of all.
use Rattle.std.proofs.Common.{◌≡◌, ◌∙◌, inl, inr, ◌<◌, ◌≤◌, ◌+◌, ◌-◌, ◌*◌, ℕ, zero, suc, ℤ, pos, negsuc, List, [], ◌∷◌, length, Bool, true, false, refl, sym, ap, subst, arith, add-one}
use Rattle.std.specs.Prelude.{◌+ℤ◌, ◌*ℤ◌, ◌≤ℤ◌, ◌<ℤ◌, ◌&&◌, ◌||◌, ◌==◌, nat_le, nat_lt, int_le, int_lt, replicate, unwrap_or}
use Rattle.std.specs.List.{list_all, list_any, range_with_len}
use Rattle.std.proofs.Math.Nat.{suc-mul, mul-le-mul_right}
use Rattle.std.proofs.lemmas.Bool.{and_parts, and_from, and_left, and_right, ltb-true, leb-true, eqb-true, lt-ltb, le-leb, eq-eqb, ne_eqb, cases_lt, or_from, false≢true}
use Rattle.std.proofs.lemmas.Int.{ints}
use Rattle.vx_base.specs.PlainValue.{PlainValue, int, whole_or_zero}
use Rattle.vx_model.specs.Rows.{row_at, index_of, is_index, offset_at}
use Rattle.vx_model.specs.WellFormed.{is_place, lies_between, never_falls, rises, ascend, are_block_offsets, is_block_width}
use Rattle.vx_flat.proofs.PartRows.{range_passes, range_fails}
use Rattle.vx_array.specs.Linear.{IsUniform, IsLinear}
use Rattle.vx_array.proofs.Lines.{IsLine, Convex, line-passes}

-- ---- tests of each row

pub all-pass : (p : PlainValue → Bool) (vs : List PlainValue) → ((i : ℕ) → i < length vs → p (row_at vs i) ≡ true) → list_all p vs ≡ true
all-pass p [] h = refl
all-pass p (v ∷ vs) h = and_from _ _ (h 0 (omega arith)) (all-pass p vs (λ i l. h (suc i) (omega arith)))

pub all-failed : (p : PlainValue → Bool) (vs : List PlainValue) (i : ℕ) → i < length vs → p (row_at vs i) ≡ false → list_all p vs ≡ false
all-failed p [] i l f = absurd (omega arith)
all-failed p (v ∷ vs) zero l f = and_left (p v) (list_all p vs) f
all-failed p (v ∷ vs) (suc i) l f = and_right (p v) (list_all p vs) (all-failed p vs i (omega arith) f)

-- a test that numbers between two others pass as they do
abbrev pub ConvexRows : (PlainValue → Bool) → Type 0
ConvexRows p = Convex (λ z. p (int z))

module _ (p : PlainValue → Bool) (c : ConvexRows p) (vs : List PlainValue) (linear : IsLinear vs) where
  pub row-between : (i last : ℕ) → i ≤ last → last < length vs → p (row_at vs 0) ≡ true → p (row_at vs last) ≡ true → p (row_at vs i) ≡ true
  row-between i last l m a b = pick linear
    where
      pick : IsLinear vs → p (row_at vs i) ≡ true
      pick (inl same) = ap p (same i (omega arith)) ∙ a
      pick (inr steps) =
          let f : ℕ → ℤ = λ k. steps.first +ℤ pos k *ℤ steps.step in
          let line : IsLine f (length vs) = record { first = steps.first; step = steps.step; each = λ k w. refl } in
          ap p (steps.each i (omega arith)) ∙ line-passes (λ z. p (int z)) c f (length vs) i last line l m (ap p (sym (steps.each 0 (omega arith))) ∙ a) (ap p (sym (steps.each last m)) ∙ b)

  -- all rows pass where the first and the last do
  pub ends-all : 0 < length vs → list_all p vs ≡ (p (row_at vs 0) && p (row_at vs (length vs - 1)))
  ends-all some = pick (p (row_at vs 0)) (p (row_at vs (length vs - 1))) refl refl
    where
      pick : (a b : Bool) → p (row_at vs 0) ≡ a → p (row_at vs (length vs - 1)) ≡ b → list_all p vs ≡ (a && b)
      pick true true h k = all-pass p vs (λ i l. row-between i (length vs - 1) (omega arith) (omega arith) h k)
      pick true false h k = all-failed p vs (length vs - 1) (omega arith) k
      pick false b h k = all-failed p vs 0 some h

pub convex-is_place : (len : ℕ) → ConvexRows (is_place len)
convex-is_place len (pos a) (pos z) (pos b) h k l r = lt-ltb z len (let most = ltb-true b len k in omega (arith, ints))
convex-is_place len (pos a) (negsuc z) b h k l r = absurd (omega (arith, ints))
convex-is_place len (pos a) (pos z) (negsuc b) h k l r = absurd (omega (arith, ints))
convex-is_place len (negsuc a) z b h k l r = absurd cc

pub convex-lies_between : (low high : ℕ) → ConvexRows (lies_between low high)
convex-lies_between low high (pos a) (pos z) (pos b) h k l r =
    let least = leb-true low a (and_parts (nat_le low a) (nat_lt a high) h).0 in
    let most = ltb-true b high (and_parts (nat_le low b) (nat_lt b high) k).1 in
    and_from _ _ (le-leb low z (omega (arith, ints))) (lt-ltb z high (omega (arith, ints)))
convex-lies_between low high (pos a) (negsuc z) b h k l r = absurd (omega (arith, ints))
convex-lies_between low high (pos a) (pos z) (negsuc b) h k l r = absurd (omega (arith, ints))
convex-lies_between low high (negsuc a) z b h k l r = absurd cc

no_rows : (p : PlainValue → Bool) (vs : List PlainValue) → length vs ≡ 0 → list_all p vs ≡ true
no_rows p [] e = refl
no_rows p (v ∷ vs) e = absurd (omega arith)

pub places-linear : (len : ℕ) (vs : List PlainValue) → IsLinear vs → 0 < length vs → list_all (is_place len) vs ≡ (is_place len (row_at vs 0) && is_place len (row_at vs (length vs - 1)))
places-linear len vs linear some = ends-all (is_place len) (convex-is_place len) vs linear some

pub places-none : (len : ℕ) (vs : List PlainValue) → length vs ≡ 0 → list_all (is_place len) vs ≡ true
places-none len vs none = no_rows (is_place len) vs none

pub lies-linear : (low high : ℕ) (vs : List PlainValue) → IsLinear vs → 0 < length vs → list_all (lies_between low high) vs ≡ (lies_between low high (row_at vs 0) && lies_between low high (row_at vs (length vs - 1)))
lies-linear low high vs linear some = ends-all (lies_between low high) (convex-lies_between low high) vs linear some

pub lies_nowhere : (low high : ℕ) (vs : List PlainValue) → length vs ≡ 0 → list_all (lies_between low high) vs ≡ true
lies_nowhere low high vs none = no_rows (lies_between low high) vs none

-- ---- whole numbers in a line

abbrev pub whole_at : List PlainValue → ℕ → ℤ
whole_at vs i = whole_or_zero (row_at vs i)

pub line-linear : (vs : List PlainValue) → IsLinear vs → IsLine (whole_at vs) (length vs)
line-linear vs (inl same) = record { first = whole_at vs 0; step = pos 0; each = λ i l. ap whole_or_zero (same i l) ∙ omega (arith, ints) }
line-linear vs (inr steps) = record { first = steps.first; step = steps.step; each = λ i l. ap whole_or_zero (steps.each i l) }

int_le-true : (a b : ℤ) → a ≤ℤ b → int_le a b ≡ true
int_le-true a b l = grind (arith, ints)

int_le-false : (a b : ℤ) → b <ℤ a → int_le a b ≡ false
int_le-false a b l = grind (arith, ints)

int_lt-true : (a b : ℤ) → a <ℤ b → int_lt a b ≡ true
int_lt-true a b l = grind (arith, ints)

int_lt-false : (a b : ℤ) → b ≤ℤ a → int_lt a b ≡ false
int_lt-false a b l = grind (arith, ints)

-- ---- numbers that never fall, and that rise

never_falls-each : (vs : List PlainValue) → ((i : ℕ) → suc i < length vs → int_le (whole_at vs i) (whole_at vs (suc i)) ≡ true) → never_falls vs ≡ true
never_falls-each [] h = refl
never_falls-each (v ∷ []) h = refl
never_falls-each (v ∷ w ∷ vs) h = and_from _ _ (h 0 (omega arith)) (never_falls-each (w ∷ vs) (λ i l. h (suc i) (omega arith)))

never_falls-first : (vs : List PlainValue) → 1 < length vs → int_le (whole_at vs 0) (whole_at vs 1) ≡ false → never_falls vs ≡ false
never_falls-first [] l h = absurd (omega arith)
never_falls-first (v ∷ []) l h = absurd (omega arith)
never_falls-first (v ∷ w ∷ vs) l h = and_left _ (never_falls (w ∷ vs)) h

never_falls-one : (vs : List PlainValue) → length vs ≡ 1 → never_falls vs ≡ true
never_falls-one [] e = refl
never_falls-one (v ∷ []) e = refl
never_falls-one (v ∷ w ∷ vs) e = absurd (omega arith)

rises-each : (vs : List PlainValue) → ((i : ℕ) → suc i < length vs → int_lt (whole_at vs i) (whole_at vs (suc i)) ≡ true) → rises vs ≡ true
rises-each [] h = refl
rises-each (v ∷ []) h = refl
rises-each (v ∷ w ∷ vs) h = and_from _ _ (h 0 (omega arith)) (rises-each (w ∷ vs) (λ i l. h (suc i) (omega arith)))

rises-first : (vs : List PlainValue) → 1 < length vs → int_lt (whole_at vs 0) (whole_at vs 1) ≡ false → rises vs ≡ false
rises-first [] l h = absurd (omega arith)
rises-first (v ∷ []) l h = absurd (omega arith)
rises-first (v ∷ w ∷ vs) l h = and_left _ (rises (w ∷ vs)) h

rises-one : (vs : List PlainValue) → length vs ≡ 1 → rises vs ≡ true
rises-one [] e = refl
rises-one (v ∷ []) e = refl
rises-one (v ∷ w ∷ vs) e = absurd (omega arith)

-- a step up, and down
next-up : (first : ℤ) (s i : ℕ) → first +ℤ pos (suc i) *ℤ pos s ≡ (first +ℤ pos i *ℤ pos s) +ℤ pos s
next-up first s i = let more = suc-mul i s in omega (arith, ints, more)

next-down : (first : ℤ) (s i : ℕ) → (first +ℤ pos (suc i) *ℤ negsuc s) +ℤ pos (suc s) ≡ first +ℤ pos i *ℤ negsuc s
next-down first s i = let more = suc-mul i (suc s) in omega (arith, ints, more)

pub never_falls-linear : (vs : List PlainValue) → IsLinear vs → 0 < length vs → never_falls vs ≡ int_le (whole_at vs 0) (whole_at vs (length vs - 1))
never_falls-linear vs linear some = pick line.step refl
  where
    line : IsLine (whole_at vs) (length vs)
    line = line-linear vs linear

    at : (z : ℤ) → line.step ≡ z → (i : ℕ) → i < length vs → whole_at vs i ≡ line.first +ℤ pos i *ℤ z
    at z e i l = line.each i l ∙ ap (λ s. line.first +ℤ pos i *ℤ s) e

    pick : (z : ℤ) → line.step ≡ z → never_falls vs ≡ int_le (whole_at vs 0) (whole_at vs (length vs - 1))
    pick (pos s) e =
        let up : 0 * s ≤ (length vs - 1) * s = mul-le-mul_right s (omega arith) in
        let a = at (pos s) e 0 some in
        let b = at (pos s) e (length vs - 1) (omega arith) in
        never_falls-each vs (λ i l. (
        let here = at (pos s) e i (omega arith) in
        let next = at (pos s) e (suc i) l in
        let more = next-up line.first s i in
        int_le-true (whole_at vs i) (whole_at vs (suc i)) (omega (arith, ints, here, next, more))
        ))
        ∙ sym (int_le-true (whole_at vs 0) (whole_at vs (length vs - 1)) (omega (arith, ints, a, b, up)))
    pick (negsuc s) e =
        elim (cases_lt 1 (length vs)) [
          | inl many ↦
              let down : 1 * suc s ≤ (length vs - 1) * suc s = mul-le-mul_right (suc s) (omega arith) in
              let a = at (negsuc s) e 0 some in
              let b = at (negsuc s) e (length vs - 1) (omega arith) in
              let next = at (negsuc s) e 1 many in
              let more = next-down line.first s 0 in
              never_falls-first vs many (int_le-false (whole_at vs 0) (whole_at vs 1) (omega (arith, ints, a, next, more)))
              ∙ sym (int_le-false (whole_at vs 0) (whole_at vs (length vs - 1)) (omega (arith, ints, a, b, down)))
          | inr one ↦
              let last : length vs - 1 ≡ 0 = omega arith in
              never_falls-one vs (omega arith) ∙ sym (ap (λ k. int_le (whole_at vs 0) (whole_at vs k)) last ∙ int_le-true (whole_at vs 0) (whole_at vs 0) (omega (arith, ints)))
        ]

pub never_falls-none : (vs : List PlainValue) → length vs ≡ 0 → never_falls vs ≡ true
never_falls-none [] e = refl
never_falls-none (v ∷ vs) e = absurd (omega arith)

pub rises-linear : (vs : List PlainValue) → IsLinear vs → 1 < length vs → rises vs ≡ int_lt (whole_at vs 0) (whole_at vs (length vs - 1))
rises-linear vs linear many = pick line.step refl
  where
    line : IsLine (whole_at vs) (length vs)
    line = line-linear vs linear

    at : (z : ℤ) → line.step ≡ z → (i : ℕ) → i < length vs → whole_at vs i ≡ line.first +ℤ pos i *ℤ z
    at z e i l = line.each i l ∙ ap (λ s. line.first +ℤ pos i *ℤ s) e

    pick : (z : ℤ) → line.step ≡ z → rises vs ≡ int_lt (whole_at vs 0) (whole_at vs (length vs - 1))
    pick (pos zero) e =
        let a = at (pos 0) e 0 (omega arith) in
        let b = at (pos 0) e (length vs - 1) (omega arith) in
        let next = at (pos 0) e 1 many in
        rises-first vs many (int_lt-false (whole_at vs 0) (whole_at vs 1) (omega (arith, ints, a, next)))
        ∙ sym (int_lt-false (whole_at vs 0) (whole_at vs (length vs - 1)) (omega (arith, ints, a, b)))
    pick (pos (suc s)) e =
        let up : 1 * suc s ≤ (length vs - 1) * suc s = mul-le-mul_right (suc s) (omega arith) in
        let a = at (pos (suc s)) e 0 (omega arith) in
        let b = at (pos (suc s)) e (length vs - 1) (omega arith) in
        rises-each vs (λ i l. (
        let here = at (pos (suc s)) e i (omega arith) in
        let next = at (pos (suc s)) e (suc i) l in
        let more = next-up line.first (suc s) i in
        int_lt-true (whole_at vs i) (whole_at vs (suc i)) (omega (arith, ints, here, next, more))
        ))
        ∙ sym (int_lt-true (whole_at vs 0) (whole_at vs (length vs - 1)) (omega (arith, ints, a, b, up)))
    pick (negsuc s) e =
        let down : 1 * suc s ≤ (length vs - 1) * suc s = mul-le-mul_right (suc s) (omega arith) in
        let a = at (negsuc s) e 0 (omega arith) in
        let b = at (negsuc s) e (length vs - 1) (omega arith) in
        let next = at (negsuc s) e 1 many in
        let more = next-down line.first s 0 in
        rises-first vs many (int_lt-false (whole_at vs 0) (whole_at vs 1) (omega (arith, ints, a, next, more)))
        ∙ sym (int_lt-false (whole_at vs 0) (whole_at vs (length vs - 1)) (omega (arith, ints, a, b, down)))

-- ---- indices that ascend

pub ascend-linear : (low high : ℕ) (vs : List PlainValue) → IsLinear vs → 0 < length vs
    → ascend low high vs ≡ ((lies_between low high (row_at vs 0) && lies_between low high (row_at vs (length vs - 1))) && ((length vs == 1) || int_lt (whole_at vs 0) (whole_at vs (length vs - 1))))
ascend-linear low high vs linear some =
    ap (λ b. b && rises vs) (lies-linear low high vs linear some) ∙ ap (λ b. (lies_between low high (row_at vs 0) && lies_between low high (row_at vs (length vs - 1))) && b) by_length
  where
    by_length : rises vs ≡ ((length vs == 1) || int_lt (whole_at vs 0) (whole_at vs (length vs - 1)))
    by_length =
        elim (cases_lt 1 (length vs)) [
          | inl many ↦ rises-linear vs linear many ∙ sym (ap (λ b. b || int_lt (whole_at vs 0) (whole_at vs (length vs - 1))) (ne_eqb (length vs) 1 (λ same. omega arith)))
          | inr one ↦ let long : length vs ≡ 1 = omega arith in rises-one vs long ∙ sym (ap (λ b. b || int_lt (whole_at vs 0) (whole_at vs (length vs - 1))) (eq-eqb (length vs) 1 long))
        ]

pub ascend-empty : (low high : ℕ) (vs : List PlainValue) → length vs ≡ 0 → ascend low high vs ≡ true
ascend-empty low high [] e = refl
ascend-empty low high (v ∷ vs) e = absurd (omega arith)

-- ---- block offsets

-- multiples of one width
record AreMultiples (most : ℕ) (os : List PlainValue) : Type 0 where
  width : ℕ
  few : width ≤ most
  each : (b : ℕ) → b < length os → row_at os b ≡ int (pos (b * width))

first_zero : (v : PlainValue) → is_index v 0 ≡ true → v ≡ int (pos 0)
first_zero (int (pos n)) e = ap (λ k. int (pos k)) (eqb-true n 0 e)
first_zero (int (negsuc n)) e = absurd cc
first_zero v e = absurd cc

multiples : (most : ℕ) (os : List PlainValue) → IsLinear os → 1 < length os → is_index (row_at os 0) 0 ≡ true → is_block_width most os 0 ≡ true → AreMultiples most os
multiples most os linear many zero_first h = pick linear
  where
    first : row_at os 0 ≡ int (pos 0)
    first = first_zero (row_at os 0) zero_first

    lies : lies_between 0 (0 + most + 1) (row_at os 1) ≡ true
    lies = subst (λ o. lies_between o (o + most + 1) (row_at os 1) ≡ true) (ap (λ v. unwrap_or (index_of v) 0) first) h

    by_step : (a z : ℤ) → int (a +ℤ pos 0 *ℤ z) ≡ int (pos 0) → ((b : ℕ) → b < length os → row_at os b ≡ int (a +ℤ pos b *ℤ z)) → AreMultiples most os
    by_step a (pos s) e each =
        let zero_at : a +ℤ pos 0 *ℤ pos s ≡ pos 0 = cc in
        let second : row_at os 1 ≡ int (pos s) = each 1 many ∙ ap int (omega (arith, ints, zero_at)) in
        let within : nat_lt s (0 + most + 1) ≡ true = (and_parts (nat_le 0 s) (nat_lt s (0 + most + 1)) (ap (lies_between 0 (0 + most + 1)) (sym second) ∙ lies)).1 in
        let small = ltb-true s (0 + most + 1) within in
        record { width = s; few = omega arith; each = λ b l. each b l ∙ ap int (omega (arith, ints, zero_at)) }
    by_step a (negsuc s) e each =
        let zero_at : a +ℤ pos 0 *ℤ negsuc s ≡ pos 0 = cc in
        let second : row_at os 1 ≡ int (negsuc s) = each 1 many ∙ ap int (omega (arith, ints, zero_at)) in
        absurd (false≢true (ap (lies_between 0 (0 + most + 1)) (sym second) ∙ lies))

    pick : IsLinear os → AreMultiples most os
    pick (inl same) = record { width = 0; few = omega arith; each = λ b l. same b l ∙ first ∙ ap (λ k. int (pos k)) (omega arith) }
    pick (inr steps) = by_step steps.first steps.step (sym (steps.each 0 (omega arith)) ∙ first) steps.each

width_of_multiples : (most : ℕ) (os : List PlainValue) → AreMultiples most os → (b : ℕ) → b + 1 < length os → is_block_width most os b ≡ true
width_of_multiples most os m b l =
    let here : offset_at os b ≡ b * m.width = ap (λ v. unwrap_or (index_of v) 0) (m.each b (omega arith)) in
    let next : (b + 1) * m.width ≡ b * m.width + m.width = rw (add-one b) (suc-mul b m.width) in
    let few = m.few in
    (λ i. lies_between (here i) (here i + most + 1) (m.each (b + 1) l i)) ∙ and_from _ _ (le-leb (b * m.width) ((b + 1) * m.width) (omega (arith, next))) (lt-ltb ((b + 1) * m.width) (b * m.width + most + 1) (omega (arith, next, few)))

-- each width is the first
pub widths-linear : (most : ℕ) (os : List PlainValue) → IsLinear os → 1 < length os → is_index (row_at os 0) 0 ≡ true
    → list_all (is_block_width most os) (range_with_len 0 (length os - 1)) ≡ is_block_width most os 0
widths-linear most os linear many zero_first = pick (is_block_width most os 0) refl
  where
    pick : (b : Bool) → is_block_width most os 0 ≡ b → list_all (is_block_width most os) (range_with_len 0 (length os - 1)) ≡ b
    pick true h = range_passes (is_block_width most os) 0 (length os - 1) (λ b l. width_of_multiples most os (multiples most os linear many zero_first h) b (omega arith))
    pick false h = range_fails (is_block_width most os) (length os - 1) 0 (omega arith) h

-- the first is 0, and each width is the first
pub offsets-linear : (most : ℕ) (os : List PlainValue) → IsLinear os → 0 < length os → is_index (row_at os 0) 0 ≡ true → are_block_offsets most os ≡ ((length os == 1) || is_block_width most os 0)
offsets-linear most os linear some zero_first =
    ap (λ b. b && list_all (is_block_width most os) (range_with_len 0 (length os - 1))) zero_first
    ∙ elim (cases_lt 1 (length os)) [
      | inl many ↦ widths-linear most os linear many zero_first ∙ sym (ap (λ b. b || is_block_width most os 0) (ne_eqb (length os) 1 (λ same. omega arith)))
      | inr one ↦
          let none : length os - 1 ≡ 0 = omega arith in
          ap (λ n. list_all (is_block_width most os) (range_with_len 0 n)) none ∙ sym (ap (λ b. b || is_block_width most os 0) (eq-eqb (length os) 1 (omega arith)))
    ]

-- ---- equal rows

pub any-uniform : (p : PlainValue → Bool) (vs : List PlainValue) → IsUniform vs → 0 < length vs → list_any p vs ≡ p (row_at vs 0)
any-uniform p [] same some = absurd (omega arith)
any-uniform p (v ∷ vs) same some = pick (p v) refl
  where
    pick : (b : Bool) → p v ≡ b → (b || list_any p vs) ≡ b
    pick true h = refl
    pick false h = none vs (λ i l. ap p (same (suc i) (omega arith)) ∙ h)
      where
        none : (ws : List PlainValue) → ((i : ℕ) → i < length ws → p (row_at ws i) ≡ false) → list_any p ws ≡ false
        none [] each = refl
        none (w ∷ ws) each = or_from _ _ (each 0 (omega arith)) (none ws (λ i l. each (suc i) (omega arith)))

pub any-none : (p : PlainValue → Bool) (vs : List PlainValue) → length vs ≡ 0 → list_any p vs ≡ false
any-none p [] e = refl
any-none p (v ∷ vs) e = absurd (omega arith)

pub ruleset uniform_any = (any-uniform, any-none)

pub rows-uniform : (vs : List PlainValue) → IsUniform vs → vs ≡ replicate (length vs) (row_at vs 0)
rows-uniform vs same = copies vs (row_at vs 0) same
  where
    copies : (ws : List PlainValue) (v : PlainValue) → ((i : ℕ) → i < length ws → row_at ws i ≡ v) → ws ≡ replicate (length ws) v
    copies [] v each = refl
    copies (w ∷ ws) v each = λ j. each 0 (omega arith) j ∷ copies ws v (λ i l. each (suc i) (omega arith)) j
