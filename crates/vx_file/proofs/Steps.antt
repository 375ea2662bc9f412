-- One step of a loop over a list whose items are taken by their places, and bytes that are written one part after another.
use Rattle.std.proofs.Common.{◌≡◌, ◌<◌, ◌≤◌, ◌+◌, ℕ, zero, suc, Bool, true, false, ◌&&◌, List, [], ◌∷◌, ◌++◌, length, take, drop, get_or, slice_get, Some, None, refl, sym, ap, ◌∙◌, append_assoc, add-one, arith}
use Rattle.std.specs.Prelude.{sum_by}
use Rattle.std.specs.List.{list_all}
use Rattle.std.proofs.lemmas.List.{at_drop_more}
use Rattle.std.proofs.lemmas.List.Sums.{sum_by-cons}

-- ---- bytes

-- two parts, one after the other
pub two_parts : (old a mid b new text : List ℕ) → mid ≡ old ++ a → new ≡ mid ++ b → text ≡ a ++ b → new ≡ old ++ text
two_parts old a mid b new text p q r = q ∙ ap (λ (x : List ℕ). x ++ b) p ∙ append_assoc old a b ∙ ap (λ (x : List ℕ). old ++ x) (sym r)

-- three parts, one after the other
pub three_parts : (old a b c first second new text : List ℕ) → first ≡ old ++ a → second ≡ first ++ b → new ≡ second ++ c → text ≡ a ++ (b ++ c) → new ≡ old ++ text
three_parts old a b c first second new text p q r e = two_parts old a first (b ++ c) new text p (two_parts first b second c new (b ++ c) q r refl) e

-- five parts, grouped as two and three
pub five_parts : (old a b c d e one two three four new : List ℕ) → one ≡ old ++ a → two ≡ one ++ b → three ≡ two ++ c → four ≡ three ++ d → new ≡ four ++ e → new ≡ old ++ ((a ++ b) ++ ((c ++ d) ++ e))
five_parts old a b c d e one two three four new p q r s t =
    let front = two_parts old a one b two (a ++ b) p q refl in
    let middle = two_parts two c three d four (c ++ d) r s refl in
    let back = two_parts two (c ++ d) four e new ((c ++ d) ++ e) middle t refl in
    two_parts old (a ++ b) two ((c ++ d) ++ e) new ((a ++ b) ++ ((c ++ d) ++ e)) front back refl

-- the first of the parts that are left
pub part_more : (out part new left rest total : List ℕ) → new ≡ out ++ part → left ≡ part ++ rest → out ++ left ≡ total → new ++ rest ≡ total
part_more out part new left rest total a b c = ap (λ (x : List ℕ). x ++ rest) a ∙ append_assoc out part rest ∙ ap (λ (x : List ℕ). out ++ x) (sym b) ∙ c

-- ---- items

module _ {A : Type 0} where
  pub drop_at_place : (xs : List A) (i : ℕ) (x : A) → slice_get xs i ≡ Some x → drop i xs ≡ x ∷ drop (i + 1) xs
  drop_at_place [] i x e = absurd cc
  drop_at_place (y ∷ xs) zero x e = let same : y ≡ x = cc in rw same refl
  drop_at_place (y ∷ xs) (suc i) x e = let ih = rw add-one at (drop_at_place xs i x e) in rw (add-one (suc i)) ih

  pub past_end : (xs : List A) (i : ℕ) → slice_get xs i ≡ None → length xs ≤ i
  past_end [] i e = omega arith
  past_end (y ∷ xs) zero e = absurd cc
  past_end (y ∷ xs) (suc i) e = omega (arith, past_end xs i e)

  -- a test that the items that are left decide
  pub test_goes_on : (test : A → Bool) (xs : List A) (i : ℕ) (x : A) (total : Bool) → slice_get xs i ≡ Some x → test x ≡ true → list_all test (drop i xs) ≡ total → list_all test (drop (i + 1) xs) ≡ total
  test_goes_on test xs i x total e t so_far = let d = ap (list_all test) (drop_at_place xs i x e) in sym (d ∙ ap (λ (b : Bool). b && list_all test (drop (i + 1) xs)) t) ∙ so_far

  pub test_stops : (test : A → Bool) (xs : List A) (i : ℕ) (x : A) (total : Bool) → slice_get xs i ≡ Some x → test x ≡ false → list_all test (drop i xs) ≡ total → false ≡ total
  test_stops test xs i x total e t so_far = let d = ap (list_all test) (drop_at_place xs i x e) in sym (d ∙ ap (λ (b : Bool). b && list_all test (drop (i + 1) xs)) t) ∙ so_far

  -- a sum of the items before
  pub sum_goes_on : (f : A → ℕ) (xs : List A) (i : ℕ) (x : A) → slice_get xs i ≡ Some x → sum_by f (take (i + 1) xs) ≡ sum_by f (take i xs) + f x
  sum_goes_on f [] i x e = absurd cc
  sum_goes_on f (y ∷ xs) zero x e = let same : y ≡ x = cc in rw (sum_by-cons f y [], same) (omega arith)
  sum_goes_on f (y ∷ xs) (suc i) x e =
      let ih = rw add-one at (sum_goes_on f xs i x e) in
      rw add-one (rw (sum_by-cons f y (take (suc i) xs), sum_by-cons f y (take i xs), ih) (omega arith))

  -- the same of items that are read in their order
  pub each_goes_on : (test : A → Bool) (xs : List A) (i : ℕ) (x : A) (total : Bool) → i < length xs → x ≡ get_or xs i x → test x ≡ true → list_all test (drop i xs) ≡ total → list_all test (drop (i + 1) xs) ≡ total
  each_goes_on test xs i x total h e t so_far =
      sym (at_drop_more (list_all test) xs i x h ∙ ap (λ (b : Bool). b && list_all test (drop (i + 1) xs)) (ap test (sym e) ∙ t)) ∙ so_far

  pub each_stops : (test : A → Bool) (xs : List A) (i : ℕ) (x : A) (total : Bool) → i < length xs → x ≡ get_or xs i x → test x ≡ false → list_all test (drop i xs) ≡ total → false ≡ total
  each_stops test xs i x total h e t so_far =
      sym (at_drop_more (list_all test) xs i x h ∙ ap (λ (b : Bool). b && list_all test (drop (i + 1) xs)) (ap test (sym e) ∙ t)) ∙ so_far

pub ruleset steps = (test_goes_on, test_stops, each_goes_on, each_stops, sum_goes_on, past_end)
