-- The best of all is the choice.
use Rattle.std.proofs.Common.{◌≡◌, ◌*◌, ◌<◌, ◌≤◌, Bool, true, false, cond, not, ◌&&◌, List, [], ◌∷◌, Option, Some, None, option_map, refl, sym, ◌∙◌, ap, subst, arith, mul_comm, mul_right_comm}
use borrow.Author.Tests.{ltb-true}
use Rattle.std.proofs.Math.Nat.{mul-le-mul_left, mul-le-mul_right, le_of_mul-le-mul_right}
use Rattle.std.specs.List.{find, list_all}
use Rattle.std.proofs.lemmas.Bool.{ltb-false, le-ltb}
use Rattle.vx_base.specs.declared.fraction.Fraction.{Fraction}
use Rattle.vx_base.specs.Fractions.{is_less, is_above_one}
use Rattle.vx_compressor.specs.declared.choice.Score.{Score}
use Rattle.vx_compressor.specs.declared.choice.Score.TheVariants.{Always, Finite}
use Rattle.vx_compressor.specs.Choice.{is_always_score, is_at_most, is_greatest, or_else, choice_of, best_of, is_always}

-- ---- fractions

-- not less, and not less again
less-trans : (f g h : Fraction) → is_less f g ≡ false → is_less g h ≡ false → is_less f h ≡ false
less-trans f g h fg gh =
    let a : g.num * f.den ≤ f.num * g.den = ltb-false _ _ fg in
    let b : h.num * g.den ≤ g.num * h.den = ltb-false _ _ gh in
    let a' : g.num * f.den * h.den ≤ f.num * g.den * h.den = mul-le-mul_right h.den a in
    let b' : h.num * g.den * f.den ≤ g.num * h.den * f.den = mul-le-mul_right f.den b in
    let c : h.num * f.den * g.den ≤ f.num * h.den * g.den = omega (arith, a', b', mul_right_comm h.num f.den g.den, mul_right_comm g.num h.den f.den, mul_right_comm f.num h.den g.den) in
    le-ltb _ _ (le_of_mul-le-mul_right c g.positive)

less-asym : (f g : Fraction) → is_less f g ≡ true → is_less g f ≡ false
less-asym f g e = let l : f.num * g.den < g.num * f.den = ltb-true _ _ e in le-ltb _ _ (omega arith)

less-irrefl : (f : Fraction) → is_less f f ≡ false
less-irrefl f = le-ltb _ _ (omega arith)

-- none above one is less than one that isn't
not-above : (f g : Fraction) → is_above_one f ≡ false → is_above_one g ≡ true → is_less g f ≡ false
not-above f g low high =
    let a : f.num ≤ f.den = ltb-false _ _ low in
    let b : g.den < g.num = ltb-true _ _ high in
    let a' : f.num * g.den ≤ f.den * g.den = mul-le-mul_right g.den a in
    let b' : f.den * g.den ≤ f.den * g.num = mul-le-mul_left f.den (omega (arith, b)) in
    le-ltb _ _ (omega (arith, a', b', mul_comm f.den g.num))

-- ---- tests

and_both : (a b : Bool) → (a && b) ≡ true → (a ≡ true) × (b ≡ true)
and_both true b e = (refl, e)
and_both false b e = absurd cc

both_and : (a b : Bool) → a ≡ true → b ≡ true → (a && b) ≡ true
both_and true b ha hb = hb
both_and false b ha hb = ha

not-true : (b : Bool) → not b ≡ true → b ≡ false
not-true true e = absurd cc
not-true false e = refl

and_absorb : (a b c : Bool) → (a ≡ true → b ≡ true) → (a && (b && c)) ≡ (a && c)
and_absorb true b c h = ap (λ x. x && c) (h refl)
and_absorb false b c h = refl

and_absorb_left : (a b c : Bool) → (b ≡ true → a ≡ true) → (a && (b && c)) ≡ (b && c)
and_absorb_left true b c h = refl
and_absorb_left false true c h = let e = h refl in absurd cc
and_absorb_left false false c h = refl

and_false : (a b c : Bool) → b ≡ false → (a && (b && c)) ≡ false
and_false a true c e = absurd cc
and_false true false c e = refl
and_false false false c e = refl

pub and_no : (a : Bool) → (a && false) ≡ false
and_no true = refl
and_no false = refl

-- ---- nothing is better than an always-use

pub best_of-always : {A : Type 0} (best : Option (A × Score)) (xs : List (A × Option Score)) → is_always best ≡ true → best_of best xs ≡ best
best_of-always (Some (y, Always)) [] e = refl
best_of-always (Some (y, Always)) ((x, None) ∷ xs) e = best_of-always (Some (y, Always)) xs refl
best_of-always (Some (y, Always)) ((x, Some s) ∷ xs) e = best_of-always (Some (y, Always)) xs refl
best_of-always (Some (y, Finite f)) xs e = absurd cc
best_of-always None xs e = absurd cc

-- ---- what may be left out of a list

-- what a lower fraction bounds, a higher one bounds
bounds-more : (g f : Fraction) → is_less g f ≡ false → (s : Option Score) → is_at_most f s ≡ true → is_at_most g s ≡ true
bounds-more g f gf None e = refl
bounds-more g f gf (Some Always) e = refl
bounds-more g f gf (Some (Finite h)) e = ap not (less-trans g f h gf (not-true _ e))

abbrev Scored : Type 0 → Type 0
Scored A = A × Option Score

module _ {A : Type 0} where
  abbrev all_at_most : Fraction → List (Scored A) → Bool
  all_at_most h xs = list_all (λ x. is_at_most h x.1) xs

  greatest-cong : (l1 l2 : List (Scored A)) → ((h : Fraction) → is_above_one h ≡ true → all_at_most h l1 ≡ all_at_most h l2) → (s : Option Score) → is_greatest l1 s ≡ is_greatest l2 s
  greatest-cong l1 l2 same None = refl
  greatest-cong l1 l2 same (Some Always) = refl
  greatest-cong l1 l2 same (Some (Finite h)) = of_test (is_above_one h) refl
    where
      of_test : (b : Bool) → is_above_one h ≡ b → (b && all_at_most h l1) ≡ (b && all_at_most h l2)
      of_test true e = same h e
      of_test false e = refl

  find-cong : (p q : Scored A → Bool) → ((x : Scored A) → p x ≡ q x) → (xs : List (Scored A)) → find p xs ≡ find q xs
  find-cong p q e [] = refl
  find-cong p q e (x ∷ xs) = ap (λ b. cond b (Some x) (find p xs)) (e x) ∙ ap (cond (q x) (Some x)) (find-cong p q e xs)

  abbrev greatest : List (Scored A) → Option (Scored A)
  greatest xs = find (λ x. is_greatest xs x.1) xs

  -- what never is the first greatest, and bounds no other
  left_out : (x : Scored A) (xs : List (Scored A)) → is_greatest (x ∷ xs) x.1 ≡ false → ((h : Fraction) → is_above_one h ≡ true → all_at_most h (x ∷ xs) ≡ all_at_most h xs) → greatest (x ∷ xs) ≡ greatest xs
  left_out x xs never same =
      ap (λ b. cond b (Some x) (find (λ z. is_greatest (x ∷ xs) z.1) xs)) never
      ∙ find-cong (λ z. is_greatest (x ∷ xs) z.1) (λ z. is_greatest xs z.1) (λ z. greatest-cong (x ∷ xs) xs same z.1) xs

  -- the same for the second of a list
  second_left_out : (y x : Scored A) (xs : List (Scored A)) → (is_greatest (y ∷ xs) x.1 ≡ true → is_greatest (y ∷ xs) y.1 ≡ true) → ((h : Fraction) → is_above_one h ≡ true → all_at_most h (y ∷ x ∷ xs) ≡ all_at_most h (y ∷ xs)) → greatest (y ∷ x ∷ xs) ≡ greatest (y ∷ xs)
  second_left_out y x xs first same =
      find-cong (λ z. is_greatest (y ∷ x ∷ xs) z.1) (λ z. is_greatest (y ∷ xs) z.1) (λ z. greatest-cong (y ∷ x ∷ xs) (y ∷ xs) same z.1) (y ∷ x ∷ xs)
      ∙ skip (is_greatest (y ∷ xs) y.1) (is_greatest (y ∷ xs) x.1) first
    where
      skip : (a b : Bool) → (b ≡ true → a ≡ true) → cond a (Some y) (cond b (Some x) (find (λ z. is_greatest (y ∷ xs) z.1) xs)) ≡ cond a (Some y) (find (λ z. is_greatest (y ∷ xs) z.1) xs)
      skip true b h = refl
      skip false true h = let e = h refl in absurd cc
      skip false false h = refl

  all-more : (g f : Fraction) → is_less g f ≡ false → (xs : List (Scored A)) → all_at_most f xs ≡ true → all_at_most g xs ≡ true
  all-more g f gf [] e = refl
  all-more g f gf (x ∷ xs) e = of_test (is_at_most f x.1) refl e (all-more g f gf xs)
    where
      of_test : (b : Bool) → is_at_most f x.1 ≡ b → (b && all_at_most f xs) ≡ true → (all_at_most f xs ≡ true → all_at_most g xs ≡ true) → (is_at_most g x.1 && all_at_most g xs) ≡ true
      of_test true at rest ih = ap (λ b. b && all_at_most g xs) (bounds-more g f gf x.1 at) ∙ ih rest
      of_test false at rest ih = absurd cc

  -- a score that isn't better than y may be left out behind it
  behind : (y x : A) (g : Fraction) (s : Option Score) (xs : List (Scored A)) → is_above_one g ≡ true → is_always_score s ≡ false → ((f : Fraction) → s ≡ Some (Finite f) → is_less g f ≡ false)
      → greatest ((y, Some (Finite g)) ∷ (x, s) ∷ xs) ≡ greatest ((y, Some (Finite g)) ∷ xs)
  behind y x g s xs above never less =
      second_left_out (y, Some (Finite g)) (x, s) xs (first s never less)
      (λ h valid. and_absorb (is_at_most h (Some (Finite g))) (is_at_most h s) (all_at_most h xs) (bound h s never less))
    where
      bound : (h : Fraction) (s : Option Score) → is_always_score s ≡ false → ((f : Fraction) → s ≡ Some (Finite f) → is_less g f ≡ false) → is_at_most h (Some (Finite g)) ≡ true → is_at_most h s ≡ true
      bound h None never less e = refl
      bound h (Some Always) never less e = refl
      bound h (Some (Finite f)) never less e = ap not (less-trans h g f (not-true _ e) (less f refl))

      first : (s : Option Score) → is_always_score s ≡ false → ((f : Fraction) → s ≡ Some (Finite f) → is_less g f ≡ false) → is_greatest ((y, Some (Finite g)) ∷ xs) s ≡ true → is_greatest ((y, Some (Finite g)) ∷ xs) (Some (Finite g)) ≡ true
      first None never less e = absurd cc
      first (Some Always) never less e = absurd cc
      first (Some (Finite f)) never less e =
          let parts = and_both (is_above_one f) (is_at_most f (Some (Finite g)) && all_at_most f xs) e in
          let rest = (and_both (is_at_most f (Some (Finite g))) (all_at_most f xs) parts.1).1 in
          both_and (is_above_one g) _ above (both_and (is_at_most g (Some (Finite g))) _ (ap not (less-irrefl g)) (all-more g f (less f refl) xs rest))

  -- y may be left out before a better one
  before : (y x : A) (g f : Fraction) (xs : List (Scored A)) → is_less g f ≡ true → greatest ((y, Some (Finite g)) ∷ (x, Some (Finite f)) ∷ xs) ≡ greatest ((x, Some (Finite f)) ∷ xs)
  before y x g f xs less =
      left_out (y, Some (Finite g)) ((x, Some (Finite f)) ∷ xs)
      (ap (λ b. is_above_one g && b) (and_false (is_at_most g (Some (Finite g))) (is_at_most g (Some (Finite f))) (all_at_most g xs) (ap not less)) ∙ and_no (is_above_one g))
      (λ h valid. and_absorb_left (is_at_most h (Some (Finite g))) (is_at_most h (Some (Finite f))) (all_at_most h xs) (λ e. ap not (less-trans h f g (not-true _ e) (less-asym g f less))))

  -- ---- the best of a list

  -- the first always-use, else this
  abbrev chosen_or : List (Scored A) → Option (Scored A) → Option A
  chosen_or xs r = option_map (λ x. x.0) (or_else (find (λ x. is_always_score x.1) xs) r)

  -- from y on
  from_best : (y : A) (g : Fraction) (xs : List (Scored A)) → is_above_one g ≡ true → option_map (λ p. p.0) (best_of (Some (y, Finite g)) xs) ≡ chosen_or xs (greatest ((y, Some (Finite g)) ∷ xs))
  from_best y g [] above =
      let p : is_greatest ((y, Some (Finite g)) ∷ []) (Some (Finite g)) ≡ true = both_and (is_above_one g) _ above (both_and (is_at_most g (Some (Finite g))) _ (ap not (less-irrefl g)) refl) in
      ap (λ b. option_map {T = Scored A} (λ x. x.0) (cond b (Some (y, Some (Finite g))) None)) (sym p)
  from_best y g ((x, None) ∷ xs) above = from_best y g xs above ∙ ap (chosen_or xs) (sym (behind y x g None xs above refl (λ f e. absurd cc)))
  from_best y g ((x, Some Always) ∷ xs) above = ap (option_map (λ p. p.0)) (best_of-always (Some (x, Always)) xs refl)
  from_best y g ((x, Some (Finite f)) ∷ xs) above =
      of_tests (is_above_one f) (is_less g f) refl refl (from_best x f xs) (from_best y g xs above)
    where
      kept : is_less g f ≡ false → option_map (λ p. p.0) (best_of (Some (y, Finite g)) xs) ≡ chosen_or xs (greatest ((y, Some (Finite g)) ∷ xs))
          → option_map (λ p. p.0) (best_of (Some (y, Finite g)) xs) ≡ chosen_or xs (greatest ((y, Some (Finite g)) ∷ (x, Some (Finite f)) ∷ xs))
      kept less ih = ih ∙ ap (chosen_or xs) (sym (behind y x g (Some (Finite f)) xs above refl (λ h e. let same : f ≡ h = cc in subst (λ h. is_less g h ≡ false) same less)))

      of_tests : (a b : Bool) → is_above_one f ≡ a → is_less g f ≡ b
          → (is_above_one f ≡ true → option_map (λ p. p.0) (best_of (Some (x, Finite f)) xs) ≡ chosen_or xs (greatest ((x, Some (Finite f)) ∷ xs)))
          → option_map (λ p. p.0) (best_of (Some (y, Finite g)) xs) ≡ chosen_or xs (greatest ((y, Some (Finite g)) ∷ xs))
          → option_map (λ p. p.0) (best_of (cond (a && b) (Some (x, Finite f)) (Some (y, Finite g))) xs) ≡ chosen_or xs (greatest ((y, Some (Finite g)) ∷ (x, Some (Finite f)) ∷ xs))
      of_tests true true valid less better_ih kept_ih = better_ih valid ∙ ap (chosen_or xs) (sym (before y x g f xs less))
      of_tests true false valid less better_ih kept_ih = kept less kept_ih
      of_tests false b valid less better_ih kept_ih = kept (not-above f g valid above) kept_ih

  -- from the first on
  pub best_is_choice : (xs : List (Scored A)) → option_map (λ p. p.0) (best_of None xs) ≡ choice_of xs
  best_is_choice [] = refl
  best_is_choice ((x, None) ∷ xs) = best_is_choice xs ∙ ap (chosen_or xs) (sym (left_out (x, None) xs refl (λ h valid. refl)))
  best_is_choice ((x, Some Always) ∷ xs) = ap (option_map (λ p. p.0)) (best_of-always (Some (x, Always)) xs refl)
  best_is_choice ((x, Some (Finite f)) ∷ xs) = of_test (is_above_one f) refl (from_best x f xs) (best_is_choice xs)
    where
      of_test : (a : Bool) → is_above_one f ≡ a
          → (is_above_one f ≡ true → option_map (λ p. p.0) (best_of (Some (x, Finite f)) xs) ≡ chosen_or xs (greatest ((x, Some (Finite f)) ∷ xs)))
          → option_map (λ p. p.0) (best_of None xs) ≡ choice_of xs
          → option_map (λ p. p.0) (best_of (cond a (Some (x, Finite f)) None) xs) ≡ chosen_or xs (greatest ((x, Some (Finite f)) ∷ xs))
      of_test true valid better_ih ih = better_ih valid
      of_test false valid better_ih ih =
          ih ∙ ap (chosen_or xs) (sym (left_out (x, Some (Finite f)) xs
          (ap (λ b. b && all_at_most f ((x, Some (Finite f)) ∷ xs)) valid)
          (λ h above. let at : is_at_most h (Some (Finite f)) ≡ true = ap not (not-above f h valid above) in ap (λ b. b && all_at_most h xs) at)))
