-- The loop that gathers the rows that are wider than a width.
use Rattle.std.proofs.Common.{◌≡◌, ℕ, zero, suc, ◌+◌, ◌^◌, ◌<◌, ◌≤◌, Bool, true, false, cond, List, [], ◌∷◌, ◌++◌, length, get_or, map, refl, sym, ap, ◌∙◌, arith, inl, inr}
use Rattle.std.specs.Prelude.{◌/◌, ◌==◌, filter, not, nat_lt}
use Rattle.std.specs.Int.RustNames.{bit_or}
use Rattle.std.specs.List.{range_with_len}
use Rattle.std.proofs.lemmas.Bool.{lt-ltb, le-ltb, ne_eqb, cases_lt}
use Rattle.std.proofs.lemmas.Nat.{pow_pos, mod_below, div-add-mod', le_or_l, le_or_r}
use Rattle.std.proofs.lemmas.Bool.Decides.{nat_tests}
use Rattle.std.proofs.lemmas.List.Elements.{filter-append}
use Rattle.std.proofs.lemmas.List.{length-map}
use Rattle.std.proofs.Math.Nat as nat
use Rattle.vx_base.specs.Packed.{is_wide, wide_rows}
use Rattle.vx_blocks.proofs.Rows.{bits-at}

-- a number has bits above a width where it isn't below 2 to the width
pub wide_by_shift : (bits width : ℕ) → not (bits / 2 ^ width == 0) ≡ not (nat_lt bits (2 ^ width))
wide_by_shift bits width =
    elim (cases_lt bits (2 ^ width)) [
      | inl lt ↦ rw (lt-ltb _ _ lt, nat.div-eq_of_lt lt) refl
      | inr far ↦ rw (le-ltb _ _ far, ne_eqb (bits / 2 ^ width) 0 (λ e. let parts = rw e at (div-add-mod' bits (2 ^ width)) in omega (arith, mod_below bits (2 ^ width) (pow_pos width)))) refl
    ]

last : (start n j : ℕ) → start + n ≡ j → range_with_len start (suc n) ≡ range_with_len start n ++ j ∷ []
last start zero j e = let same : start ≡ j = omega arith in ap (λ k. k ∷ []) same
last start (suc n) j e = ap (λ l. start ∷ l) (last (start + 1) n j (omega arith))

pub filter-range_more : (p : ℕ → Bool) (n : ℕ) → filter p (range_with_len 0 (n + 1)) ≡ filter p (range_with_len 0 n) ++ cond (p n) (n ∷ []) []
filter-range_more p n =
    let on : n + 1 ≡ suc n = omega arith in
    ap (λ k. filter p (range_with_len 0 k)) on ∙ ap (filter p) (last 0 n n (omega arith)) ∙ filter-append p (range_with_len 0 n) (n ∷ [])

append_nil : (ys : List ℕ) → ys ++ [] ≡ ys
append_nil [] = refl
append_nil (y ∷ ys) = ap (λ l. y ∷ l) (append_nil ys)

-- a row that fits the width isn't wide, valid or not
narrow-row : (width bits : ℕ) (valid : Bool) → bits < 2 ^ width → is_wide width bits valid ≡ false
narrow-row width bits false h = refl
narrow-row width bits true h = rw (lt-ltb _ _ h) refl

-- the `|` of bits
pub seen-row : (bits : List ℕ) (start i word x : ℕ) → x ≡ get_or bits i 0 → ((k : ℕ) → start ≤ k → k < i → get_or bits k 0 ≤ word) → (k : ℕ) → start ≤ k → k < i + 1 → get_or bits k 0 ≤ bit_or word x
seen-row bits start i word x is before k first last =
    elim (cases_lt k i) [
      | inl lt ↦ nat.le_trans (before k first lt) (le_or_l word x)
      | inr far ↦ let here : k ≡ i = omega arith in rw (here, ← is) (le_or_r word x)
    ]

-- fits a width where each of them does
pub seen-narrow : (bits : List ℕ) (width start end word : ℕ) → ((k : ℕ) → start ≤ k → k < end → get_or bits k 0 ≤ word) → is_wide width word true ≡ false → (k : ℕ) → start ≤ k → k < end → get_or bits k 0 < 2 ^ width
seen-narrow bits width start end word seen narrow k first last =
    elim (cases_lt word (2 ^ width)) [
      | inl lt ↦ nat.lt_of_le_of_lt (seen k first last) lt
      | inr far ↦ absurd (grind (arith, nat_tests))
    ]

-- the rows of a slice whose items are whole numbers by g, with the bits f
module _ {X Z : Type 0} (f : Z → ℕ) (g : X → Z) (width : ℕ) (xs : List X) (valid : List Bool) where
  abbrev pub wide_before : ℕ → List ℕ
  wide_before n = filter (λ i. is_wide width (get_or (map f (map g xs)) i 0) (get_or valid i false)) (range_with_len 0 n)

  pub wide_all : (n : ℕ) → n ≤ length xs → length xs ≤ n → wide_before n ≡ wide_rows width (map f (map g xs)) valid
  wide_all n a b = let e : n ≡ length (map f (map g xs)) = omega (arith, length-map (map g xs) f, length-map xs g) in ap wide_before e

  -- where no row from a on is wide, n of them, none is added
  pub wide-none : (a n b : ℕ) → a + n ≡ b → ((k : ℕ) → a ≤ k → k < b → get_or (map f (map g xs)) k 0 < 2 ^ width) → wide_before b ≡ wide_before a
  wide-none a zero b e small = let same : b ≡ a = omega arith in ap wide_before same
  wide-none a (suc n) b e small =
      let next : b ≡ (a + n) + 1 = omega arith in
      let last : get_or (map f (map g xs)) (a + n) 0 < 2 ^ width = small (a + n) (omega arith) (omega arith) in
      ap wide_before next ∙ filter-range_more _ (a + n) ∙ rw (narrow-row width (get_or (map f (map g xs)) (a + n) 0) (get_or valid (a + n) false) last) (append_nil (wide_before (a + n)))
      ∙ wide-none a n (a + n) refl (λ k from to. small k from (omega arith))

  module _ (i : ℕ) (x : X) (row : ℕ) (h : i < length xs) (at : x ≡ get_or xs i x) (is : row ≡ f (g x)) where
    same : is_wide width row (get_or valid i false) ≡ is_wide width (get_or (map f (map g xs)) i 0) (get_or valid i false)
    same = ap (λ b. is_wide width b (get_or valid i false)) (bits-at f g xs i x row h at is)

    pub wide-push : is_wide width row (get_or valid i false) ≡ true → wide_before (i + 1) ≡ wide_before i ++ i ∷ []
    wide-push e = filter-range_more _ i ∙ rw (sym same ∙ e) refl

    pub wide-skip : is_wide width row (get_or valid i false) ≡ false → wide_before (i + 1) ≡ wide_before i
    wide-skip e = filter-range_more _ i ∙ rw (sym same ∙ e) (append_nil (wide_before i))

pub ruleset wide_tests = (wide_by_shift)
