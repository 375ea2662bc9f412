-- The distinct numbers of a list.
use Rattle.std.proofs.Common.{◌≡◌, ℕ, suc, ◌+◌, ◌<◌, ◌≤◌, ℤ, pos, Bool, true, false, cond, List, [], ◌∷◌, ◌++◌, length, map, drop, get_or, Ordering, refl, sym, ap, subst, inl, inr, ◌⊎◌, append_assoc, ◌∙◌, arith}
use Rattle.std.specs.Prelude.{int_lt, ◌==◌, ⊤, nat_lt, fold, max}
use Rattle.std.specs.List.{find}
use Rattle.std.specs.Option.{unwrap_or}
use Rattle.std.specs.Ordering.{int_eq, int_cmp, is_lt}
use Rattle.std.specs.declared.cmp.Ordering.TheVariants.{Less}
use Rattle.std.specs.List.{AllByRecursion}
use Rattle.std.specs.List.Sorted.{IsPermutation, IsSorted, IsStrictlySortedBy}
use Rattle.std.proofs.lemmas.Bool.{cond_both, cond-true, cond-false, cases_lt, lt-ltb, le-ltb, eq-eqb, ne_eqb}
use Rattle.std.proofs.lemmas.Bool.Decides.{nat_tests}
use Rattle.std.proofs.lemmas.Int.{ints}
use Rattle.std.proofs.lemmas.List.{drop_more, length-map, map-append}
use Rattle.std.proofs.lemmas.List.Sums.{sum_by-cons}
use Rattle.std.proofs.lemmas.List.Sorted.{sum_by-IsPermutation}
use Rattle.vx_stats.specs.Distinct.{times, with_number, distinct, value_counts, most_frequent}
use Rattle.vx_stats.specs.Stats.{runs_after, run_count}
use Rattle.vx_stats.specs.Runs.{runs, runs_from, IsRising, IsRisingFrom, better, whole_count, whole_counts}
use Rattle.vx_blocks.proofs.Extremes.{less}
use Rattle.vx_stats.proofs.TallyLemmas.{same-eq, left, left-next}

pub times-next : (x z : ℤ) (zs : List ℤ) → times (z ∷ zs) x ≡ cond (int_eq x z) 1 0 + times zs x
times-next x z zs = sum_by-cons (λ w. cond (int_eq x w) 1 0) z zs

-- ---- ascending numbers

-- a number is below each of these
abbrev pub IsBelow : ℤ → List ℤ → Type 0
IsBelow z zs = AllByRecursion (λ w. int_lt z w ≡ true) zs

-- each is below those after it
abbrev pub IsAscending : List ℤ → Type 0
IsAscending [] = ⊤
IsAscending (z ∷ zs) = IsBelow z zs × IsAscending zs

lt-trans : (x y z : ℤ) → int_lt x y ≡ true → int_lt y z ≡ true → int_lt x z ≡ true
lt-trans x y z h k = grind (arith, ints)

lt-unequal : (x y : ℤ) → int_lt x y ≡ true → int_eq x y ≡ false
lt-unequal x y h = grind (arith, ints)

lt-unequal-back : (x y : ℤ) → int_lt x y ≡ true → int_eq y x ≡ false
lt-unequal-back x y h = grind (arith, ints)

lt-third : (x y : ℤ) → int_lt x y ≡ false → int_eq x y ≡ false → int_lt y x ≡ true
lt-third x y h k = grind (arith, ints)

pub eq-same : (x y : ℤ) → int_eq x y ≡ true → x ≡ y
eq-same x y h = grind (arith, ints)

not-below-self : (x : ℤ) → int_lt x x ≡ false
not-below-self x = grind (arith, ints)

below-trans : (x z : ℤ) (ds : List ℤ) → int_lt x z ≡ true → IsBelow z ds → IsBelow x ds
below-trans x z [] h b = tt
below-trans x z (d ∷ ds) h b = (lt-trans x z d h b.0, below-trans x z ds h b.1)

-- ---- one more number

-- the three ways in which a number goes among others
pub by-order : (z w : ℤ) (P : List ℤ → Type 0) (ws : List ℤ) → (int_lt z w ≡ true → P (z ∷ w ∷ ws)) → (z ≡ w → P (w ∷ ws)) → (int_lt w z ≡ true → P (w ∷ with_number z ws)) → P (with_number z (w ∷ ws))
by-order z w P ws less same more =
    cond_both (int_lt z w) (z ∷ w ∷ ws) (cond (int_eq z w) (w ∷ ws) (w ∷ with_number z ws)) P less
    (λ f. cond_both (int_eq z w) (w ∷ ws) (w ∷ with_number z ws) P (λ e. same (eq-same z w e)) (λ g. more (lt-third z w f g)))

with-below : (x z : ℤ) (ds : List ℤ) → int_lt x z ≡ true → IsBelow x ds → IsBelow x (with_number z ds)
with-below x z [] h b = (h, tt)
with-below x z (d ∷ ds) h b = by-order z d (IsBelow x) ds (λ l. (h, b)) (λ e. b) (λ m. (b.0, with-below x z ds h b.1))

with-ascends : (z : ℤ) (ds : List ℤ) → IsAscending ds → IsAscending (with_number z ds)
with-ascends z [] a = (tt, tt)
with-ascends z (d ∷ ds) a =
    by-order z d IsAscending ds (λ l. ((l, below-trans z d ds l a.0), a)) (λ e. a) (λ m. (with-below d z ds m a.0, with-ascends z ds a.1))

pub distinct-ascends : (zs : List ℤ) → IsAscending (distinct zs)
distinct-ascends [] = tt
distinct-ascends (z ∷ zs) = with-ascends z (distinct zs) (distinct-ascends zs)

pub distinct-below : (x : ℤ) (zs : List ℤ) → IsBelow x zs → IsBelow x (distinct zs)
distinct-below x [] b = tt
distinct-below x (z ∷ zs) b = with-below x z (distinct zs) b.0 (distinct-below x zs b.1)

pub times-below : (z : ℤ) (zs : List ℤ) → IsBelow z zs → times zs z ≡ 0
times-below z [] b = refl
times-below z (w ∷ ws) b = times-next z w ws ∙ rw (lt-unequal z w b.0) (omega (arith, times-below z ws b.1))

with-at_front : (z : ℤ) (ds : List ℤ) → IsBelow z ds → with_number z ds ≡ z ∷ ds
with-at_front z [] b = refl
with-at_front z (d ∷ ds) b = cond-true (int_lt z d) _ _ b.0

with-same : (z : ℤ) (ds : List ℤ) → with_number z (z ∷ ds) ≡ z ∷ ds
with-same z ds = cond-false (int_lt z z) _ _ (not-below-self z) ∙ cond-true (int_eq z z) _ _ (same-eq z)

with-later : (z w : ℤ) (ws : List ℤ) → int_lt w z ≡ true → with_number z (w ∷ ws) ≡ w ∷ with_number z ws
with-later z w ws h = by-order z w (λ l. l ≡ w ∷ with_number z ws) ws (λ l. absurd (both z w l h)) (λ e. absurd (neither z w e h)) (λ m. refl)
  where
    both : (x y : ℤ) → int_lt x y ≡ true → int_lt y x ≡ true → ⊥
    both x y h k = grind (arith, ints)

    neither : (x y : ℤ) → x ≡ y → int_lt y x ≡ true → ⊥
    neither x y h k = grind (arith, ints)

with-twice : (z : ℤ) (ds : List ℤ) → with_number z (with_number z ds) ≡ with_number z ds
with-twice z [] = with-same z []
with-twice z (d ∷ ds) =
    by-order z d (λ l. with_number z l ≡ l) ds (λ l. with-same z (d ∷ ds)) (λ e. subst (λ x. with_number x (d ∷ ds) ≡ d ∷ ds) (sym e) (with-same d ds))
    (λ m. with-later z d (with_number z ds) m ∙ ap (λ l. d ∷ l) (with-twice z ds))

-- ---- how often a number occurs among distinct ones

abbrev one_if : Bool → ℕ
one_if b = cond b 1 0

-- one that is there already changes nothing
with-times : (x z : ℤ) (ds : List ℤ) → IsAscending ds → times (with_number z ds) x ≡ cond (int_eq x z) 1 (times ds x)
with-times x z [] a = times-next x z [] ∙ cond_both (int_eq x z) 1 0 (λ n. n + 0 ≡ cond (int_eq x z) 1 0) (λ e. rw e refl) (λ e. rw e refl)
with-times x z (d ∷ ds) a =
    by-order z d (λ l. times l x ≡ cond (int_eq x z) 1 (times (d ∷ ds) x)) ds
    (λ l. times-next x z (d ∷ ds) ∙ front (int_eq x z) (times (d ∷ ds) x) (λ e. subst (λ y. times (d ∷ ds) y ≡ 0) (sym (eq-same x z e)) (times-below z (d ∷ ds) (l, below-trans z d ds l a.0))))
    (λ e. times-next x d ds ∙ there (int_eq x d) (int_eq x z) (times ds x) (ap (λ y. int_eq x y) (sym e)) (λ f. subst (λ y. times ds y ≡ 0) (sym (eq-same x d f)) (times-below d ds a.0)) ∙ ap (λ n. cond (int_eq x z) 1 n) (sym (times-next x d ds)))
    (λ m. times-next x d (with_number z ds) ∙ ap (λ n. cond (int_eq x d) 1 0 + n) (with-times x z ds a.1) ∙ later (int_eq x z) (int_eq x d) (times ds x) (λ e f. apart x z d m e f) ∙ ap (λ n. cond (int_eq x z) 1 n) (sym (times-next x d ds)))
  where
    front : (b : Bool) (n : ℕ) → (b ≡ true → n ≡ 0) → cond b 1 0 + n ≡ cond b 1 n
    front true n h = omega (arith, h refl)
    front false n h = omega arith

    there : (b c : Bool) (n : ℕ) → b ≡ c → (b ≡ true → n ≡ 0) → cond b 1 0 + n ≡ cond c 1 (cond b 1 0 + n)
    there true true n e h = omega (arith, h refl)
    there false false n e h = refl
    there true false n e h = absurd cc
    there false true n e h = absurd cc

    later : (b c : Bool) (n : ℕ) → (b ≡ true → c ≡ true → ⊥) → cond c 1 0 + cond b 1 n ≡ cond b 1 (cond c 1 0 + n)
    later true true n h = absurd (h refl refl)
    later true false n h = refl
    later false c n h = refl

    apart : (x z d : ℤ) → int_lt d z ≡ true → int_eq x z ≡ true → int_eq x d ≡ true → ⊥
    apart x z d h k l = grind (arith, ints)

-- once where it occurs at all
pub distinct-times : (x : ℤ) (zs : List ℤ) → times (distinct zs) x ≡ cond (times zs x == 0) 0 1
distinct-times x [] = refl
distinct-times x (z ∷ zs) =
    with-times x z (distinct zs) (distinct-ascends zs) ∙ ap (λ n. cond (int_eq x z) 1 n) (distinct-times x zs) ∙ step (int_eq x z) (times zs x) ∙ ap (λ n. cond (n == 0) 0 1) (sym (times-next x z zs))
  where
    step : (b : Bool) (n : ℕ) → ◌≡◌ {A = ℕ} (cond b 1 (cond (n == 0) 0 1)) (cond ((cond b 1 0 + n) == 0) 0 1)
    step true n = grind (arith, nat_tests)
    step false n = ap (λ m. cond (m == 0) 0 1) (omega arith)

-- ---- ascending numbers are known by how often each occurs

first-times : (x : ℤ) (xs : List ℤ) → times (x ∷ xs) x ≡ 1 + times xs x
first-times x xs = times-next x x xs ∙ ap (λ b. cond b 1 0 + times xs x) (same-eq x)

cases_whole : (x y : ℤ) → (int_lt x y ≡ true) ⊎ ((x ≡ y) ⊎ (int_lt y x ≡ true))
cases_whole x y = by-test (int_lt x y) (int_eq x y) refl refl
  where
    by-test : (a b : Bool) → int_lt x y ≡ a → int_eq x y ≡ b → (int_lt x y ≡ true) ⊎ ((x ≡ y) ⊎ (int_lt y x ≡ true))
    by-test true b e f = inl e
    by-test false true e f = inr (inl (eq-same x y f))
    by-test false false e f = inr (inr (lt-third x y e f))

missing : (x : ℤ) (xs ys : List ℤ) → IsBelow x ys → times (x ∷ xs) x ≡ times ys x → ⊥
missing x xs ys b same = let e : 1 + times xs x ≡ 0 = sym (first-times x xs) ∙ same ∙ times-below x ys b in absurd (omega arith)

pub same-ascending : (xs ys : List ℤ) → IsAscending xs → IsAscending ys → ((z : ℤ) → times xs z ≡ times ys z) → xs ≡ ys
same-ascending [] [] a b same = refl
same-ascending [] (y ∷ ys) a b same = let e : 0 ≡ 1 + times ys y = same y ∙ first-times y ys in absurd (omega arith)
same-ascending (x ∷ xs) [] a b same = let e : 1 + times xs x ≡ 0 = sym (first-times x xs) ∙ same x in absurd (omega arith)
same-ascending (x ∷ xs) (y ∷ ys) a b same =
    elim (cases_whole x y) [
      | inl l ↦ absurd (missing x xs (y ∷ ys) (l, below-trans x y ys l b.0) (same x))
      | inr (inl e) ↦ both e (same-ascending xs ys a.1 b.1 (λ z. cancel z e))
      | inr (inr l) ↦ absurd (missing y ys (x ∷ xs) (l, below-trans y x xs l a.0) (sym (same y)))
    ]
  where
    cancel : (z : ℤ) → x ≡ y → times xs z ≡ times ys z
    cancel z e =
        let k : cond (int_eq z x) 1 0 + times xs z ≡ cond (int_eq z x) 1 0 + times ys z = sym (times-next z x xs) ∙ same z ∙ times-next z y ys ∙ ap (λ w. cond (int_eq z w) 1 0 + times ys z) (sym e) in
        omega (arith, k)

    both : x ≡ y → xs ≡ ys → x ∷ xs ≡ y ∷ ys
    both e r = cc

-- ---- the order of the rows doesn't count

pub times-permutation : (xs ys : List ℤ) (z : ℤ) → IsPermutation xs ys → times ys z ≡ times xs z
times-permutation xs ys z p = sum_by-IsPermutation (λ w. cond (int_eq z w) 1 0) xs ys p

pub distinct-permutation : (xs ys : List ℤ) → IsPermutation xs ys → distinct ys ≡ distinct xs
distinct-permutation xs ys p =
    same-ascending (distinct ys) (distinct xs) (distinct-ascends ys) (distinct-ascends xs)
    (λ z. distinct-times z ys ∙ ap (λ n. cond (n == 0) 0 1) (times-permutation xs ys z p) ∙ sym (distinct-times z xs))

pub map-same : {A B : Type 0} (f g : A → B) → ((x : A) → f x ≡ g x) → (xs : List A) → map f xs ≡ map g xs
map-same f g h [] = refl
map-same f g h (x ∷ xs) = let e = h x in let r = map-same f g h xs in λ i. e i ∷ r i

pub value_counts-permutation : (xs ys : List ℤ) → IsPermutation xs ys → value_counts ys ≡ value_counts xs
value_counts-permutation xs ys p =
    map-same (λ z. (z, times ys z)) (λ z. (z, times xs z)) (λ z. ap (λ n. (z, n)) (times-permutation xs ys z p)) (distinct ys) ∙ ap (map (λ z. (z, times xs z))) (distinct-permutation xs ys p)

-- ---- runs of numbers that don't fall

below-rising : (z w : ℤ) (ws : List ℤ) → int_lt z w ≡ true → IsRisingFrom w ws → IsBelow z (w ∷ ws)
below-rising z w [] l r = (l, tt)
below-rising z w (v ∷ vs) l r = (l, below-rising z v vs (further z w v l r.0) r.1)
  where
    further : (x y z : ℤ) → int_lt x y ≡ true → int_lt z y ≡ false → int_lt x z ≡ true
    further x y z h k = grind (arith, ints)

pub map-below : (z : ℤ) (f g : ℤ → ℤ × ℕ) → ((d : ℤ) → int_lt z d ≡ true → f d ≡ g d) → (ds : List ℤ) → IsBelow z ds → map f ds ≡ map g ds
map-below z f g h [] b = refl
map-below z f g h (d ∷ ds) b = let e = h d b.0 in let r = map-below z f g h ds b.1 in λ i. e i ∷ r i

abbrev with_more : ℤ → ℕ → List ℤ → ℤ → ℤ × ℕ
with_more z n zs d = (d, times zs d + cond (int_eq d z) n 0)

pub runs-counted : (z : ℤ) (n : ℕ) (zs : List ℤ) → IsRisingFrom z zs → runs_from z n zs ≡ map (with_more z n zs) (distinct (z ∷ zs))
runs-counted z n [] r = ap (λ m. (z, m) ∷ []) (ap (λ b. cond b n 0) (sym (same-eq z)) ∙ omega arith)
runs-counted z n (w ∷ ws) r =
    elim (cases_whole z w) [
      | inl l ↦
          let below = below-rising z w ws l r.1 in
          let here : with_more z n (w ∷ ws) z ≡ (z, n) = ap (λ b. (z, times (w ∷ ws) z + cond b n 0)) (same-eq z) ∙ ap (λ m. (z, m + n)) (times-below z (w ∷ ws) below) ∙ ap (λ m. (z, m)) (omega arith) in
          cond-false (int_eq z w) _ _ (lt-unequal z w l)
          ∙ ap (λ l. (z, n) ∷ l) (runs-counted w 1 ws r.1 ∙ map-below z (with_more w 1 ws) (with_more z n (w ∷ ws)) (λ d m. ap (λ k. (d, k)) (one d m)) (distinct (w ∷ ws)) (distinct-below z (w ∷ ws) below))
          ∙ ap (λ p. p ∷ map (with_more z n (w ∷ ws)) (distinct (w ∷ ws))) (sym here)
          ∙ ap (map (with_more z n (w ∷ ws))) (sym (with-at_front z (distinct (w ∷ ws)) (distinct-below z (w ∷ ws) below)))
      | inr (inl e) ↦ same e (runs-counted z (n + 1) ws (subst (λ x. IsRisingFrom x ws) (sym e) r.1))
      | inr (inr l) ↦ absurd (falls w z l r.0)
    ]
  where
    falls : (x y : ℤ) → int_lt x y ≡ true → int_lt x y ≡ false → ⊥
    falls x y h k = absurd cc

    one : (d : ℤ) → int_lt z d ≡ true → times ws d + cond (int_eq d w) 1 0 ≡ times (w ∷ ws) d + cond (int_eq d z) n 0
    one d m = ap (λ k. times ws d + k) refl ∙ omega (arith, times-next d w ws, ap (λ b. cond b n 0) (lt-unequal-back z d m))

    added : (b : Bool) (t m : ℕ) → t + cond b (m + 1) 0 ≡ cond b 1 0 + t + cond b m 0
    added true t m = omega arith
    added false t m = omega arith

    more : z ≡ w → (d : ℤ) → times ws d + cond (int_eq d z) (n + 1) 0 ≡ times (w ∷ ws) d + cond (int_eq d z) n 0
    more e d = added (int_eq d z) (times ws d) n ∙ ap (λ x. cond (int_eq d x) 1 0 + times ws d + cond (int_eq d z) n 0) e ∙ ap (λ k. k + cond (int_eq d z) n 0) (sym (times-next d w ws))

    same : z ≡ w → runs_from z (n + 1) ws ≡ map (with_more z (n + 1) ws) (distinct (z ∷ ws)) → runs_from z n (w ∷ ws) ≡ map (with_more z n (w ∷ ws)) (distinct (z ∷ w ∷ ws))
    same e rest =
        cond-true (int_eq z w) _ _ (ap (int_eq z) (sym e) ∙ same-eq z)
        ∙ rest
        ∙ map-same (with_more z (n + 1) ws) (with_more z n (w ∷ ws)) (λ d. ap (λ k. (d, k)) (more e d)) (distinct (z ∷ ws))
        ∙ ap (map (with_more z n (w ∷ ws))) (sym (with-twice z (distinct ws)) ∙ ap (λ x. with_number z (with_number x (distinct ws))) e)

-- ---- what the rows of a column that don't fall have

pub runs-are-counts : (z : ℤ) (zs : List ℤ) → IsRisingFrom z zs → runs_from z 1 zs ≡ value_counts (z ∷ zs)
runs-are-counts z zs r = runs-counted z 1 zs r ∙ map-same (with_more z 1 zs) (λ d. (d, times (z ∷ zs) d)) (λ d. ap (λ k. (d, k)) (one d)) (distinct (z ∷ zs))
  where
    one : (d : ℤ) → times zs d + cond (int_eq d z) 1 0 ≡ times (z ∷ zs) d
    one d = omega (arith, times-next d z zs)

-- ---- the first of the greatest counts

abbrev top : ℕ → List (ℤ × ℕ) → ℕ
top n cs = fold max n (map (λ c. c.1) cs)

top-above : (n : ℕ) (cs : List (ℤ × ℕ)) → n ≤ top n cs
top-above n [] = omega arith
top-above n (c ∷ cs) = omega (arith, top-above (max n c.1) cs)

abbrev first_of : ℕ → List (ℤ × ℕ) → ℤ × ℕ
first_of n cs = unwrap_or (find (λ c. c.1 == n) cs) (pos 0, 0)

first-here : (n : ℕ) (c : ℤ × ℕ) (cs : List (ℤ × ℕ)) → c.1 ≡ n → first_of n (c ∷ cs) ≡ c
first-here n c cs e = ap (λ o. unwrap_or o (pos 0, 0)) (cond-true (c.1 == n) _ _ (eq-eqb _ _ e))

first-later : (n : ℕ) (c : ℤ × ℕ) (cs : List (ℤ × ℕ)) → c.1 < n → first_of n (c ∷ cs) ≡ first_of n cs
first-later n c cs l = ap (λ o. unwrap_or o (pos 0, 0)) (cond-false (c.1 == n) _ _ (ne_eqb _ _ (λ e. omega arith)))

first-better : (b : ℤ × ℕ) (cs : List (ℤ × ℕ)) → fold better b cs ≡ first_of (top b.1 cs) (b ∷ cs)
first-better b [] = sym (first-here b.1 b [] refl)
first-better b (c ∷ cs) =
    elim (cases_lt b.1 c.1) [
      | inl l ↦
          ap (λ x. fold better x cs) (cond-true (nat_lt b.1 c.1) c b (lt-ltb _ _ l)) ∙ first-better c cs ∙ ap (λ n. first_of (top n cs) (c ∷ cs)) (omega arith)
          ∙ sym (first-later (top (max b.1 c.1) cs) b (c ∷ cs) (omega (arith, top-above (max b.1 c.1) cs)))
      | inr g ↦
          ap (λ x. fold better x cs) (cond-false (nat_lt b.1 c.1) c b (le-ltb _ _ g)) ∙ first-better b cs ∙ ap (λ n. first_of (top n cs) (b ∷ cs)) (omega arith) ∙ skip g
    ]
  where
    skip : c.1 ≤ b.1 → first_of (top (max b.1 c.1) cs) (b ∷ cs) ≡ first_of (top (max b.1 c.1) cs) (b ∷ c ∷ cs)
    skip g =
        let n = top (max b.1 c.1) cs in
        let above : max b.1 c.1 ≤ n = top-above (max b.1 c.1) cs in
        elim (cases_lt b.1 n) [
          | inl l ↦ first-later n b cs l ∙ sym (first-later n c cs (omega arith)) ∙ sym (first-later n b (c ∷ cs) l)
          | inr m ↦ let e : b.1 ≡ n = omega arith in first-here n b cs e ∙ sym (first-here n b (c ∷ cs) e)
        ]

pub best-most_frequent : (c : ℤ × ℕ) (cs : List (ℤ × ℕ)) → fold better c (c ∷ cs) ≡ most_frequent (c ∷ cs)
best-most_frequent c cs =
    ap (λ x. fold better x cs) (once (nat_lt c.1 c.1)) ∙ first-better c cs ∙ ap (λ n. first_of (top n cs) (c ∷ cs)) (omega arith)
  where
    once : (b : Bool) → cond b c c ≡ c
    once true = refl
    once false = refl

-- ---- lists of values

pub best-start : {T : Type 0} (whole : T → ℤ) (counts : List (T × ℕ)) (c : T × ℕ) → (length counts == 0) ≡ false → c ≡ get_or counts 0 c
    → fold better (whole_count whole c) (whole_counts whole counts) ≡ most_frequent (whole_counts whole counts)
best-start whole [] c some is = absurd cc
best-start whole (d ∷ ds) c some is = ap (λ x. fold better (whole_count whole x) (whole_counts whole (d ∷ ds))) is ∙ best-most_frequent (whole_count whole d) (whole_counts whole ds)

pub runs-start : {T : Type 0} (whole : T → ℤ) (items : List T) (x : T) → (length items == 0) ≡ false → x ≡ get_or items 0 x
    → runs_from (whole x) 1 (map whole (drop 1 items)) ≡ runs (map whole items)
runs-start whole [] x some is = absurd cc
runs-start whole (y ∷ ys) x some is = ap (λ z. runs_from (whole z) 1 (map whole ys)) is

module _ {T : Type 0} (whole : T → ℤ) (cmp : T → T → Ordering) (ordered : (a b : T) → cmp a b ≡ int_cmp (whole a) (whole b)) where
  later : (k : ℕ) → suc k + 1 ≡ suc (k + 1)
  later k = omega arith

  rising-after : (x : T) (xs : List T) → IsSorted cmp (x ∷ xs) → IsRisingFrom (whole x) (map whole xs)
  rising-after x [] s = tt
  rising-after x (y ∷ ys) s = (sym (less whole cmp ordered y x) ∙ s 0 x (omega arith) (omega arith), rising-after y ys (λ k d low high. subst (λ n. is_lt (cmp (get_or (x ∷ y ∷ ys) n d) (get_or (y ∷ ys) k d)) ≡ false) (later k) (s (suc k) d (omega arith) (omega arith))))

  pub rising-sorted : (xs : List T) → IsSorted cmp xs → IsRising (map whole xs)
  rising-sorted [] s = tt
  rising-sorted (x ∷ xs) s = rising-after x xs s

pub value_counts-rising : (zs : List ℤ) → IsRising zs → runs zs ≡ value_counts zs
value_counts-rising [] r = refl
value_counts-rising (z ∷ zs) r = runs-are-counts z zs r

-- ---- a loop's steps: an item goes to the end of what is done

pub done-more : {A B : Type 0} (f : A → B) (done : List A) (x : A) (rest all : List B) → map f done ++ (f x ∷ rest) ≡ all → map f (done ++ x ∷ []) ++ rest ≡ all
done-more f done x rest all e = ap (λ l. l ++ rest) (map-append f done (x ∷ [])) ∙ append_assoc (map f done) (f x ∷ []) rest ∙ e

pub kept-next : {T : Type 0} (whole : T → ℤ) (items : List T) (bits : List Bool) (row : ℕ) (x : T) (done : List T) (all : List ℤ) → row < length items → length bits ≡ length items → x ≡ get_or items row x
    → map whole done ++ left whole items bits row ≡ all
    → (get_or bits row false ≡ true → map whole (done ++ x ∷ []) ++ left whole items bits (row + 1) ≡ all) × (get_or bits row false ≡ false → map whole done ++ left whole items bits (row + 1) ≡ all)
kept-next whole items bits row x done all within same is e =
    let next = left-next whole items bits row x within same is in
    let rest = left whole items bits (row + 1) in (
      λ t. done-more whole done x rest all (ap (λ l. map whole done ++ l) (sym (next ∙ ap (λ b. cond b (whole x ∷ rest) rest) t)) ∙ e),
      λ f. ap (λ l. map whole done ++ l) (sym (next ∙ ap (λ b. cond b (whole x ∷ rest) rest) f)) ∙ e,
    )

pub run-next : {T : Type 0} (whole : T → ℤ) (items : List T) (row : ℕ) (v x : T) (n : ℕ) (done : List (T × ℕ)) (all : List (ℤ × ℕ)) → row < length items → x ≡ get_or items row x
    → whole_counts whole done ++ runs_from (whole v) n (map whole (drop row items)) ≡ all
    → (int_eq (whole v) (whole x) ≡ true → whole_counts whole done ++ runs_from (whole v) (n + 1) (map whole (drop (row + 1) items)) ≡ all)
    × (int_eq (whole v) (whole x) ≡ false → whole_counts whole (done ++ (v, n) ∷ []) ++ runs_from (whole x) 1 (map whole (drop (row + 1) items)) ≡ all)
run-next whole items row v x n done all within is e =
    let rest = map whole (drop (row + 1) items) in
    let next : runs_from (whole v) n (map whole (drop row items)) ≡ cond (int_eq (whole v) (whole x)) (runs_from (whole v) (n + 1) rest) ((whole v, n) ∷ runs_from (whole x) 1 rest) =
    ap (λ l. runs_from (whole v) n (map whole l)) (drop_more items row x within ∙ ap (λ y. y ∷ drop (row + 1) items) (sym is))
    in (
      λ t. ap (λ l. whole_counts whole done ++ l) (sym (next ∙ cond-true _ _ _ t)) ∙ e,
      λ f. done-more (whole_count whole) done (v, n) (runs_from (whole x) 1 rest) all (ap (λ l. whole_counts whole done ++ l) (sym (next ∙ cond-false _ _ _ f)) ∙ e),
    )

-- ---- numbers that never fall have as many runs as distinct ones

runs_from-length : (z : ℤ) (n : ℕ) (zs : List ℤ) → length (runs_from z n zs) ≡ suc (runs_after z zs)
runs_from-length z n [] = refl
runs_from-length z n (w ∷ ws) =
    cond_both (int_eq z w) (runs_from z (n + 1) ws) ((z, n) ∷ runs_from w 1 ws) (λ l. length l ≡ suc (cond (int_eq z w) 0 1 + runs_after w ws))
    (λ e. omega (arith, runs_from-length z (n + 1) ws, ap (λ x. runs_after x ws) (eq-same z w e), ap (λ b. cond {A = ℕ} b 0 1) e))
    (λ f. omega (arith, runs_from-length w 1 ws, ap (λ b. cond {A = ℕ} b 0 1) f))

runs-length : (zs : List ℤ) → length (runs zs) ≡ run_count zs
runs-length [] = refl
runs-length (z ∷ zs) = runs_from-length z 1 zs

pub rising-distinct : (zs : List ℤ) → IsRising zs → run_count zs ≡ length (distinct zs)
rising-distinct zs r = sym (runs-length zs) ∙ ap length (value_counts-rising zs r) ∙ length-map (distinct zs) (λ z. (z, times zs z))

-- the runs so far, and what is left after the last integer
pub record RunsSoFar (last : ℤ) (runs : ℕ) (left all : List ℤ) : Type 0 where
  pub count : runs + runs_after last left ≡ run_count all
  pub rising : IsRisingFrom last left → IsRising all

pub runs-begun : {T : Type 0} (whole : T → ℤ) (items : List T) (x : T) → (length items == 0) ≡ false → x ≡ get_or items 0 x → RunsSoFar (whole x) 1 (map whole (drop 1 items)) (map whole items)
runs-begun whole [] x some is = absurd cc
runs-begun whole (y ∷ ys) x some is = rw is (record { count = omega arith; rising = λ r. r })

pub runs-next : {T : Type 0} (whole : T → ℤ) (items : List T) (row : ℕ) (last x : T) (runs change : ℕ) (all : List ℤ) → row < length items → x ≡ get_or items row x → int_lt (whole x) (whole last) ≡ false
    → change ≡ cond (int_eq (whole last) (whole x)) 0 1 → RunsSoFar (whole last) runs (map whole (drop row items)) all → RunsSoFar (whole x) (runs + change) (map whole (drop (row + 1) items)) all
runs-next whole items row last x runs change all within is above differs before =
    let rest = map whole (drop (row + 1) items) in
    let next : map whole (drop row items) ≡ whole x ∷ rest = ap (map whole) (drop_more items row x within ∙ ap (λ y. y ∷ drop (row + 1) items) (sym is)) in
    let here = subst (λ l. RunsSoFar (whole last) runs l all) next before in
    record { count = omega (arith, here.count, differs); rising = λ r. here.rising (above, r) }

-- ---- the laws

pub distinct-sorted : (zs : List ℤ) → IsStrictlySortedBy int_cmp (distinct zs)
unfolding IsStrictlySortedBy
distinct-sorted zs = sorted (distinct zs) (distinct-ascends zs)
  where
    lt-cmp : (x y : ℤ) → int_lt x y ≡ true → int_cmp x y ≡ Less
    lt-cmp x y h = grind (arith, ints)

    below : (z : ℤ) (ds : List ℤ) → IsBelow z ds → AllByRecursion (λ d. int_cmp z d ≡ Less) ds
    below z [] b = tt
    below z (d ∷ ds) b = (lt-cmp z d b.0, below z ds b.1)

    sorted : (ds : List ℤ) → IsAscending ds → IsStrictlySortedBy int_cmp ds
    sorted [] a = tt
    sorted (d ∷ ds) a = (below d ds a.0, sorted ds a.1)
