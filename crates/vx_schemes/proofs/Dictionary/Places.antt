-- Places of numbers among ascending ones.
use Rattle.std.proofs.Common.{◌≡◌, ℕ, zero, suc, ◌+◌, ◌<◌, ℤ, true, false, not, cond, inl, inr, List, [], ◌∷◌, length, map, get_or, Ordering, refl, sym, ap, subst, ◌∙◌, arith}
use Rattle.std.specs.Ordering.{int_eq, int_cmp, is_lt, ordering_index}
use Rattle.std.specs.declared.cmp.Ordering.TheVariants.{Less, Equal, Greater}
use Rattle.std.specs.Cmp.{IsTotalOrder}
use Rattle.std.specs.List.{AllByRecursion}
use Rattle.std.specs.List.Sorted.{IsSorted, IsStrictlySortedBy, IsNonDecreasingBy, IsPartitionPoint}
use Rattle.std.proofs.lemmas.Bool.{cases_lt}
use Rattle.std.proofs.lemmas.List.{length-map, get_or-map}
use Rattle.std.proofs.lemmas.Int.{ints}
use Rattle.std.proofs.lemmas.List.Sorted.{searchable_from_sorted}
use Rattle.vx_schemes.specs.Dictionary.Tree.{code_of}

eq-self : (x : ℤ) → int_eq x x ≡ true
eq-self x = grind (arith, ints)

less-eq : (x y : ℤ) → int_cmp x y ≡ Less → int_eq y x ≡ false
less-eq x y h = grind (arith, ints)

greater-eq : (x y : ℤ) → int_cmp x y ≡ Greater → int_eq y x ≡ false
greater-eq x y h = grind (arith, ints)

equal-is : (x y : ℤ) → int_cmp x y ≡ Equal → x ≡ y
equal-is x y h = grind (arith, ints)

flipped : (x y : ℤ) → int_cmp x y ≡ Less → is_lt (int_cmp y x) ≡ false
flipped x y h = grind (arith, ints)

below-at : (z : ℤ) (zs : List ℤ) (k : ℕ) (d : ℤ) → AllByRecursion (λ w. int_cmp z w ≡ Less) zs → k < length zs → int_cmp z (get_or zs k d) ≡ Less
below-at z [] k d b h = absurd (omega arith)
below-at z (w ∷ ws) zero d b h = b.0
below-at z (w ∷ ws) (suc k) d b h = below-at z ws k d b.1 (omega arith)

place-here : (w : ℤ) (ws : List ℤ) (z : ℤ) → int_eq z w ≡ true → code_of (w ∷ ws) z ≡ 0
place-here w ws z h = ap (λ b. cond (not b) (1 + code_of ws z) 0) h

place-later : (w : ℤ) (ws : List ℤ) (z : ℤ) → int_eq z w ≡ false → code_of (w ∷ ws) z ≡ 1 + code_of ws z
place-later w ws z h = ap (λ b. cond (not b) (1 + code_of ws z) 0) h

-- a number's place is the one where it stands
pub place-at : (numbers : List ℤ) (k : ℕ) (z d : ℤ) → IsStrictlySortedBy int_cmp numbers → k < length numbers → get_or numbers k d ≡ z → code_of numbers z ≡ k
unfolding IsStrictlySortedBy
place-at [] k z d s h e = absurd (omega arith)
place-at (w ∷ ws) zero z d s h e = place-here w ws z (ap (λ x. int_eq z x) e ∙ eq-self z)
place-at (w ∷ ws) (suc k) z d s h e =
    place-later w ws z (less-eq w z (subst (λ x. int_cmp w x ≡ Less) e (below-at w ws k d s.0 (omega arith)))) ∙ ap (λ n. 1 + n) (place-at ws k z d s.1 (omega arith) e) ∙ omega arith

-- a number that isn't there has the place behind all
pub place-missing : (numbers : List ℤ) (z d : ℤ) → ((k : ℕ) → k < length numbers → int_eq z (get_or numbers k d) ≡ false) → code_of numbers z ≡ length numbers
place-missing [] z d h = refl
place-missing (w ∷ ws) z d h = place-later w ws z (h 0 (omega arith)) ∙ ap (λ n. 1 + n) (place-missing ws z d (λ k l. h (suc k) (omega arith))) ∙ omega arith

-- ---- values whose order is that of their whole numbers

module _ {T : Type 0} (whole : T → ℤ) (cmp : T → T → Ordering) (ordered : (a b : T) → cmp a b ≡ int_cmp (whole a) (whole b)) where
  values-sorted : (xs : List T) → IsStrictlySortedBy int_cmp (map whole xs) → IsSorted cmp xs
  unfolding IsStrictlySortedBy
  values-sorted [] s k d low high = absurd (omega arith)
  values-sorted (x ∷ []) s k d low high = absurd (omega arith)
  values-sorted (x ∷ y ∷ ys) s zero d low high = ap is_lt (ordered y x) ∙ flipped (whole x) (whole y) s.0.0
  values-sorted (x ∷ y ∷ ys) s (suc k) d low high =
      subst (λ n. is_lt (cmp (get_or (x ∷ y ∷ ys) n d) (get_or (y ∷ ys) k d)) ≡ false) (later k) (values-sorted (y ∷ ys) s.1 k d (omega arith) (omega arith))
    where
      later : (k : ℕ) → suc (k + 1) ≡ suc k + 1
      later k = omega arith

  pub place-found : (xs : List T) (x : T) (k : ℕ) → IsStrictlySortedBy int_cmp (map whole xs) → k < length xs → ((d : T) → cmp (get_or xs k d) x ≡ Equal) → k ≡ code_of (map whole xs) (whole x)
  place-found xs x k s h found =
      let there = equal-is (whole (get_or xs k x)) (whole x) (sym (ordered (get_or xs k x) x) ∙ found x) in
      sym (place-at (map whole xs) k (whole x) (whole x) s (omega (arith, length-map xs whole)) (get_or-map whole xs k x (whole x) h ∙ there))

  pub place-not_found : (total : IsTotalOrder cmp) (xs : List T) (x : T) (i : ℕ) → IsStrictlySortedBy int_cmp (map whole xs)
      → (IsNonDecreasingBy (λ y. ordering_index (cmp y x)) xs → IsPartitionPoint (λ y. cmp y x ≡ Less) (λ y. cmp y x ≡ Greater) xs i) → length xs ≡ code_of (map whole xs) (whole x)
  place-not_found total xs x i s parted =
      let parts = parted (searchable_from_sorted total (λ y. y) xs x (values-sorted xs s)) in
      sym (place-missing (map whole xs) (whole x) (whole x) (λ k l. other k (omega (arith, length-map xs whole)) (apart parts k (omega (arith, length-map xs whole)))) ∙ length-map xs whole)
    where
      apart : IsPartitionPoint (λ y. cmp y x ≡ Less) (λ y. cmp y x ≡ Greater) xs i → (k : ℕ) → k < length xs → int_eq (whole x) (whole (get_or xs k x)) ≡ false
      apart parts k l =
          elim (cases_lt k i) [
            | inl low ↦ less-eq (whole (get_or xs k x)) (whole x) (sym (ordered (get_or xs k x) x) ∙ parts.0 k x (omega arith) low)
            | inr high ↦ greater-eq (whole (get_or xs k x)) (whole x) (sym (ordered (get_or xs k x) x) ∙ parts.1 k x high l)
          ]

      other : (k : ℕ) → k < length xs → int_eq (whole x) (whole (get_or xs k x)) ≡ false → int_eq (whole x) (get_or (map whole xs) k (whole x)) ≡ false
      other k l e = ap (int_eq (whole x)) (get_or-map whole xs k x (whole x) l) ∙ e
