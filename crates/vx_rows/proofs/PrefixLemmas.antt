-- A pattern and a text by their first items and characters: an item that takes one character.
use Rattle.std.proofs.Common.{◌≡◌, ◌<◌, ◌≤◌, ◌∙◌, ℕ, zero, suc, ◌+◌, Bool, true, false, List, [], ◌∷◌, map, drop, length, get_or, Option, Some, None, refl, sym, ap, arith}
use Rattle.std.specs.Prelude.{◌&&◌, ◌==◌}
use Rattle.std.proofs.Math.Dec.{eqb-suc-suc, eqb-suc-zero}
use Rattle.vx_rules.specs.Patterns.{PatternItem, any_run, any_char, exactly, matches}
use Rattle.vx_rows.specs.Items.{first_passes, fits_char}

-- the item that takes this character, or any one
abbrev pub taken_by : Option ℕ → PatternItem
taken_by None = any_char
taken_by (Some c) = exactly c

drop-one : (cs : List ℕ) (i : ℕ) → drop 1 (drop i cs) ≡ drop (suc i) cs
drop-one [] zero = refl
drop-one [] (suc i) = refl
drop-one (c ∷ cs) zero = refl
drop-one (c ∷ cs) (suc i) = drop-one cs i

-- one item more in front of those behind it
pub front : {A B : Type 0} (f : A → B) (xs : List A) (i : ℕ) (x : A) → i < length xs → f (get_or xs i x) ∷ drop (suc i) (map f xs) ≡ drop i (map f xs)
front f [] i x h = absurd (omega arith)
front f (a ∷ xs) zero x h = refl
front f (a ∷ xs) (suc i) x h = front f xs i x (omega arith)

pub none-behind : {A : Type 0} (plain : A → PatternItem) (xs : List A) (k : ℕ) → k ≡ length xs → drop k (map plain xs) ≡ []
none-behind plain xs k e = ap (λ j. drop j (map plain xs)) e ∙ none xs
  where
    none : (ys : List _) → drop (length ys) (map plain ys) ≡ []
    none [] = refl
    none (y ∷ ys) = none ys

-- where the items in front of any characters end
pub first-run : {A : Type 0} (plain : A → PatternItem) (xs : List A) (i k : ℕ) (x : A) → i < length xs → k ≡ i + 1 → plain (get_or xs i x) ≡ any_run → drop i (map plain xs) ≡ any_run ∷ drop k (map plain xs)
first-run plain xs i k x h e is =
    let one : k ≡ suc i = omega arith in
    sym (front plain xs i x h) ∙ (λ j. is j ∷ drop (sym one j) (map plain xs))

pub none-left : (items : List PatternItem) (cs : List ℕ) (n : ℕ) → n ≤ length cs → items ≡ [] → (length cs == n) ≡ matches items (drop n cs)
none-left items cs n h e = none cs n h ∙ sym (ap (λ its. matches its (drop n cs)) e)
  where
    none : (cs : List ℕ) (n : ℕ) → n ≤ length cs → (length cs == n) ≡ matches [] (drop n cs)
    none [] zero h = refl
    none [] (suc n) h = absurd (omega arith)
    none (c ∷ cs) zero h = eqb-suc-zero (length cs)
    none (c ∷ cs) (suc n) h = eqb-suc-suc (length cs) n ∙ none cs n (omega arith)

passes-within : (passes : ℕ → Bool) (cs : List ℕ) (i : ℕ) → first_passes passes (drop i cs) ≡ true → i < length cs
passes-within passes [] zero h = absurd cc
passes-within passes [] (suc i) h = absurd cc
passes-within passes (c ∷ cs) zero h = omega arith
passes-within passes (c ∷ cs) (suc i) h = let k = passes-within passes cs i h in omega arith

module _ (wanted : Option ℕ) where
  of_first : (items : List PatternItem) (cs : List ℕ) → matches (taken_by wanted ∷ items) cs ≡ (first_passes (fits_char wanted) cs && matches items (drop 1 cs))
  of_first items [] = by_wanted wanted
    where
      by_wanted : (w : Option ℕ) → matches (taken_by w ∷ items) [] ≡ false
      by_wanted None = refl
      by_wanted (Some d) = refl
  of_first items (c ∷ cs) = by_wanted wanted
    where
      by_wanted : (w : Option ℕ) → matches (taken_by w ∷ items) (c ∷ cs) ≡ (fits_char w c && matches items cs)
      by_wanted None = refl
      by_wanted (Some d) = refl

  module _ {A : Type 0} (plain : A → PatternItem) (xs : List A) (cs : List ℕ) (i : ℕ) (x : A) (h : i < length xs) (is : plain (get_or xs i x) ≡ taken_by wanted) where
    at-first : matches (drop i (map plain xs)) (drop i cs) ≡ (first_passes (fits_char wanted) (drop i cs) && matches (drop (suc i) (map plain xs)) (drop 1 (drop i cs)))
    at-first = ap (λ items. matches items (drop i cs)) (sym (front plain xs i x h) ∙ ap (λ it. it ∷ drop (suc i) (map plain xs)) is) ∙ of_first _ (drop i cs)

    pub first-refused : (whole : Bool) (b : Bool) → b ≡ first_passes (fits_char wanted) (drop i cs) → b ≡ false → whole ≡ matches (drop i (map plain xs)) (drop i cs) → whole ≡ false
    first-refused whole b e none s = s ∙ at-first ∙ ap (λ t. t && matches (drop (suc i) (map plain xs)) (drop 1 (drop i cs))) (sym e ∙ none)

    -- how far the text is taken, and what is left to match
    pub record IsTaken (whole : Bool) (k : ℕ) : Type 0 where
      pub in_text : k ≤ length cs
      pub same : whole ≡ matches (drop k (map plain xs)) (drop k cs)

    pub first-taken : (whole : Bool) (b : Bool) (k : ℕ) → k ≡ i + 1 → b ≡ first_passes (fits_char wanted) (drop i cs) → b ≡ true → whole ≡ matches (drop i (map plain xs)) (drop i cs) → IsTaken whole k
    first-taken whole b k n e takes s =
        let one : k ≡ suc i = omega arith in
        let within : i < length cs = passes-within (fits_char wanted) cs i (sym e ∙ takes) in
        record {
          in_text = omega arith;
          same = s ∙ at-first ∙ ap (λ t. t && matches (drop (suc i) (map plain xs)) (drop 1 (drop i cs))) (sym e ∙ takes)
              ∙ ap (matches (drop (suc i) (map plain xs))) (drop-one cs i) ∙ sym (ap (λ j. matches (drop j (map plain xs)) (drop j cs)) one);
        }
