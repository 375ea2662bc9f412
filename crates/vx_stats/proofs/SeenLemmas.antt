-- Counts in any order, and the distinct numbers that they make once they are sorted and merged.
use Rattle.std.proofs.Common.{◌≡◌, ℕ, suc, ◌+◌, ◌<◌, ◌≤◌, ℤ, Bool, true, false, cond, List, [], ◌∷◌, ◌++◌, length, map, drop, get_or, Ordering, Option, None, Some, refl, sym, ap, subst, inl, inr, ◌⊎◌, ◌∙◌, arith}
use Rattle.std.specs.Prelude.{int_lt, ◌==◌}
use Rattle.std.specs.List.{AllByRecursion}
use Rattle.std.specs.Ordering.{int_eq, int_cmp, nat_cmp, is_lt, ordering_then}
use Rattle.std.specs.List.Sorted.{IsPermutation, IsSorted}
use Rattle.std.specs.declared.cmp.Ordering.TheVariants.{Less, Equal, Greater}
use Rattle.std.proofs.Math.ListN.{set}
use Rattle.std.proofs.lemmas.Bool.{cond_both, cond-true, cond-false, eqb-true}
use Rattle.std.proofs.lemmas.Bool.Decides.{nat_tests}
use Rattle.std.proofs.lemmas.Int.{ints}
use Rattle.std.proofs.lemmas.List.{drop_more, length-map}
use Rattle.std.proofs.lemmas.List.Sums.{sum_by-cons, sum_by-append, sum_by-set, count_by-le-length}
use Rattle.std.proofs.lemmas.List.Sorted.{sum_by-IsPermutation}
use Rattle.vx_base.specs.PlainValue.{int}
use Rattle.vx_model.specs.Refusals.{validity_length}
use Rattle.vx_model.specs.Rows.{valid_rows}
use Rattle.vx_stats.specs.Stats.{valid_wholes}
use Rattle.vx_stats.specs.Distinct.{times, with_number, distinct, value_counts}
use Rattle.vx_stats.specs.Runs.{runs, runs_from, IsRising, IsRisingFrom, whole_count, whole_counts}
use Rattle.vx_stats.specs.Seen.{share, total, empties, merged, merged_from}
use Rattle.vx_stats.proofs.DistinctLemmas.{IsBelow, IsAscending, distinct-ascends, distinct-times, same-ascending, times-next, times-below, eq-same, by-order, map-below, map-same, done-more}
use Rattle.vx_stats.proofs.StatsLemmas.{few-values, valid_wholes-map-int}
use Rattle.vx_blocks.proofs.Extremes.{less}
use Rattle.vx_stats.proofs.TallyLemmas.{same-eq, left}

-- ---- whole numbers with counts

abbrev firsts : List (ℤ × ℕ) → List ℤ
firsts cs = map (λ c. c.0) cs

abbrev tot : List (ℤ × ℕ) → ℤ → ℕ
tot cs z = total (λ w. w) cs z

tot-cons : (c : ℤ × ℕ) (cs : List (ℤ × ℕ)) (z : ℤ) → tot (c ∷ cs) z ≡ share z c + tot cs z
tot-cons c cs z = sum_by-cons (λ d. share z (whole_count (λ w. w) d)) c cs

pub total-whole : {T : Type 0} (whole : T → ℤ) (xs : List (T × ℕ)) (z : ℤ) → tot (whole_counts whole xs) z ≡ total whole xs z
total-whole whole [] z = refl
total-whole whole (x ∷ xs) z =
    tot-cons (whole_count whole x) (whole_counts whole xs) z ∙ ap (λ n. share z (whole_count whole x) + n) (total-whole whole xs z) ∙ sym (sum_by-cons (λ c. share z (whole_count whole c)) x xs)

empties-cons : {T : Type 0} (c : T × ℕ) (cs : List (T × ℕ)) → empties (c ∷ cs) ≡ cond (c.1 == 0) 1 0 + empties cs
empties-cons c cs = sum_by-cons (λ d. cond (d.1 == 0) 1 0) c cs

pub empties-whole : {T : Type 0} (whole : T → ℤ) (xs : List (T × ℕ)) → empties (whole_counts whole xs) ≡ empties xs
empties-whole whole [] = refl
empties-whole whole (x ∷ xs) = empties-cons (whole_count whole x) (whole_counts whole xs) ∙ ap (λ n. cond (x.1 == 0) 1 0 + n) (empties-whole whole xs) ∙ sym (empties-cons x xs)

abbrev ones : Bool → ℕ
ones b = cond b 1 0

-- where no count is 0, the first one isn't 0
some-first : (c : ℤ × ℕ) (cs : List (ℤ × ℕ)) → empties (c ∷ cs) ≡ 0 → (0 < c.1) × (empties cs ≡ 0)
some-first c cs e = by-test (c.1 == 0) refl
  where
    by-test : (b : Bool) → (c.1 == 0) ≡ b → (0 < c.1) × (empties cs ≡ 0)
    by-test true t = absurd (omega (arith, e, empties-cons c cs, ap ones t))
    by-test false t = (grind (arith, nat_tests), omega (arith, e, empties-cons c cs, ap ones t))

not-zero : (n : ℕ) → 0 < n → (n == 0) ≡ false
not-zero n h = grind (arith, nat_tests)

-- ---- merging

share-sum : (x z w : ℤ) (n m : ℕ) → z ≡ w → share x (z, n + m) ≡ share x (z, n) + share x (w, m)
share-sum x z w n m e = by-test (int_eq x z) ∙ ap (λ v. share x (z, n) + share x (v, m)) e
  where
    by-test : (b : Bool) → cond b (n + m) 0 ≡ cond b n 0 + cond b m 0
    by-test true = refl
    by-test false = refl

tot-merged : (z : ℤ) (n : ℕ) (cs : List (ℤ × ℕ)) (x : ℤ) → tot (merged_from z n cs) x ≡ share x (z, n) + tot cs x
tot-merged z n [] x = tot-cons (z, n) [] x
tot-merged z n (c ∷ cs) x =
    cond_both (int_eq z c.0) (merged_from z (n + c.1) cs) ((z, n) ∷ merged_from c.0 c.1 cs) (λ l. tot l x ≡ share x (z, n) + tot (c ∷ cs) x)
    (λ same. omega (arith, tot-merged z (n + c.1) cs x, share-sum x z c.0 n c.1 (eq-same z c.0 same), tot-cons c cs x))
    (λ other. omega (arith, tot-cons (z, n) (merged_from c.0 c.1 cs) x, tot-merged c.0 c.1 cs x, tot-cons c cs x))

further : (x y z : ℤ) → int_lt x y ≡ true → int_lt z y ≡ false → int_lt x z ≡ true
further x y z h k = grind (arith, ints)

above-other : (z w : ℤ) → int_eq z w ≡ false → int_lt w z ≡ false → int_lt z w ≡ true
above-other z w f g = grind (arith, ints)

merged-below : (u z : ℤ) (n : ℕ) (cs : List (ℤ × ℕ)) → int_lt u z ≡ true → IsRisingFrom z (firsts cs) → IsBelow u (firsts (merged_from z n cs))
merged-below u z n [] l r = (l, tt)
merged-below u z n (c ∷ cs) l r =
    cond_both (int_eq z c.0) (merged_from z (n + c.1) cs) ((z, n) ∷ merged_from c.0 c.1 cs) (λ l. IsBelow u (firsts l))
    (λ same. merged-below u z (n + c.1) cs l (subst (λ w. IsRisingFrom w (firsts cs)) (sym (eq-same z c.0 same)) r.1))
    (λ other. (l, merged-below u c.0 c.1 cs (further u z c.0 l r.0) r.1))

merged-ascends : (z : ℤ) (n : ℕ) (cs : List (ℤ × ℕ)) → IsRisingFrom z (firsts cs) → IsAscending (firsts (merged_from z n cs))
merged-ascends z n [] r = (tt, tt)
merged-ascends z n (c ∷ cs) r =
    cond_both (int_eq z c.0) (merged_from z (n + c.1) cs) ((z, n) ∷ merged_from c.0 c.1 cs) (λ l. IsAscending (firsts l))
    (λ same. merged-ascends z (n + c.1) cs (subst (λ w. IsRisingFrom w (firsts cs)) (sym (eq-same z c.0 same)) r.1))
    (λ other. (merged-below z c.0 c.1 cs (above-other z c.0 other r.0) r.1, merged-ascends c.0 c.1 cs r.1))

merged-some : (z : ℤ) (n : ℕ) (cs : List (ℤ × ℕ)) → 0 < n → empties cs ≡ 0 → empties (merged_from z n cs) ≡ 0
merged-some z n [] h e = empties-cons (z, n) [] ∙ ap (λ b. ones b + 0) (not-zero n h)
merged-some z n (c ∷ cs) h e =
    let first = some-first c cs e in
    cond_both (int_eq z c.0) (merged_from z (n + c.1) cs) ((z, n) ∷ merged_from c.0 c.1 cs) (λ l. empties l ≡ 0) (λ same. merged-some z (n + c.1) cs (omega arith) first.1)
    (λ other. omega (arith, empties-cons (z, n) (merged_from c.0 c.1 cs), ap ones (not-zero n h), merged-some c.0 c.1 cs first.0 first.1))

-- ---- the lengths of runs

tot-runs_from : (z : ℤ) (n : ℕ) (zs : List ℤ) (x : ℤ) → tot (runs_from z n zs) x ≡ share x (z, n) + times zs x
tot-runs_from z n [] x = tot-cons (z, n) [] x
tot-runs_from z n (w ∷ ws) x =
    cond_both (int_eq z w) (runs_from z (n + 1) ws) ((z, n) ∷ runs_from w 1 ws) (λ l. tot l x ≡ share x (z, n) + times (w ∷ ws) x)
    (λ same. omega (arith, tot-runs_from z (n + 1) ws x, share-sum x z w n 1 (eq-same z w same), times-next x w ws))
    (λ other. omega (arith, tot-cons (z, n) (runs_from w 1 ws) x, tot-runs_from w 1 ws x, times-next x w ws))

tot-runs : (zs : List ℤ) (x : ℤ) → tot (runs zs) x ≡ times zs x
tot-runs [] x = refl
tot-runs (z ∷ zs) x = tot-runs_from z 1 zs x ∙ sym (times-next x z zs)

runs_from-some : (z : ℤ) (n : ℕ) (zs : List ℤ) → 0 < n → empties (runs_from z n zs) ≡ 0
runs_from-some z n [] h = empties-cons (z, n) [] ∙ ap (λ b. ones b + 0) (not-zero n h)
runs_from-some z n (w ∷ ws) h =
    cond_both (int_eq z w) (runs_from z (n + 1) ws) ((z, n) ∷ runs_from w 1 ws) (λ l. empties l ≡ 0) (λ same. runs_from-some z (n + 1) ws (omega arith))
    (λ other. omega (arith, empties-cons (z, n) (runs_from w 1 ws), ap ones (not-zero n h), runs_from-some w 1 ws (omega arith)))

runs-some : (zs : List ℤ) → empties (runs zs) ≡ 0
runs-some [] = refl
runs-some (z ∷ zs) = runs_from-some z 1 zs (omega arith)

pub run-totals : {T : Type 0} (whole : T → ℤ) (counts : List (T × ℕ)) (zs : List ℤ) → whole_counts whole counts ≡ runs zs → (z : ℤ) → total whole counts z ≡ times zs z
run-totals whole counts zs e z = sym (total-whole whole counts z) ∙ ap (λ l. tot l z) e ∙ tot-runs zs z

pub run-some : {T : Type 0} (whole : T → ℤ) (counts : List (T × ℕ)) (zs : List ℤ) → whole_counts whole counts ≡ runs zs → empties counts ≡ 0
run-some whole counts zs e = sym (empties-whole whole counts) ∙ ap empties e ∙ runs-some zs

-- ---- one count for each number, ascending

tot-below : (z : ℤ) (cs : List (ℤ × ℕ)) → IsBelow z (firsts cs) → tot cs z ≡ 0
tot-below z [] b = refl
tot-below z (c ∷ cs) b = omega (arith, tot-cons c cs z, ap (λ t. cond t c.1 0) (apart z c.0 b.0), tot-below z cs b.1)
  where
    apart : (x y : ℤ) → int_lt x y ≡ true → int_eq x y ≡ false
    apart x y h = grind (arith, ints)

known : (cs : List (ℤ × ℕ)) → IsAscending (firsts cs) → cs ≡ map (λ z. (z, tot cs z)) (firsts cs)
known [] a = refl
known (c ∷ cs) a =
    let here : c.1 ≡ tot (c ∷ cs) c.0 = omega (arith, tot-cons c cs c.0, ap (λ t. cond t c.1 0) (same-eq c.0), tot-below c.0 cs a.0) in
    let later = known cs a.1 ∙ map-below c.0 (λ z. (z, tot cs z)) (λ z. (z, tot (c ∷ cs) z)) (λ d l. ap (λ n. (d, n)) (past d l)) (firsts cs) a.0 in
    λ i. (c.0, here i) ∷ later i
  where
    apart : (x y : ℤ) → int_lt x y ≡ true → int_eq y x ≡ false
    apart x y h = grind (arith, ints)

    past : (d : ℤ) → int_lt c.0 d ≡ true → tot cs d ≡ tot (c ∷ cs) d
    past d l = omega (arith, tot-cons c cs d, ap (λ t. cond t c.1 0) (apart c.0 d l))

first-once : (cs : List (ℤ × ℕ)) → IsAscending (firsts cs) → empties cs ≡ 0 → (z : ℤ) → times (firsts cs) z ≡ cond (tot cs z == 0) 0 1
first-once [] a e z = refl
first-once (c ∷ cs) a e z = by-test (int_eq z c.0) refl (first-once cs a.1 (some-first c cs e).1 z)
  where
    more : (n : ℕ) → 0 < n → ◌≡◌ {A = ℕ} 1 (cond (n == 0) 0 1)
    more n h = ap (λ b. cond b 0 1) (sym (not-zero n h))

    by-test : (b : Bool) → int_eq z c.0 ≡ b → times (firsts cs) z ≡ cond (tot cs z == 0) 0 1 → times (firsts (c ∷ cs)) z ≡ cond (tot (c ∷ cs) z == 0) 0 1
    by-test true t later =
        let none : times (firsts cs) z ≡ 0 = subst (λ w. times (firsts cs) w ≡ 0) (sym (eq-same z c.0 t)) (times-below c.0 (firsts cs) a.0) in
        let one : times (firsts (c ∷ cs)) z ≡ 1 = omega (arith, times-next z c.0 (firsts cs), ap ones t, none) in
        one ∙ more (tot (c ∷ cs) z) (omega (arith, tot-cons c cs z, ap (λ b. cond b c.1 0) t, (some-first c cs e).0))
    by-test false t later =
        times-next z c.0 (firsts cs) ∙ omega (arith, ap ones t) ∙ later
        ∙ ap (λ n. cond (n == 0) 0 1) (omega (arith, tot-cons c cs z, ap (λ b. cond b c.1 0) t))

are-value_counts : (cs : List (ℤ × ℕ)) (zs : List ℤ) → IsAscending (firsts cs) → empties cs ≡ 0 → ((z : ℤ) → tot cs z ≡ times zs z) → cs ≡ value_counts zs
are-value_counts cs zs a e h =
    let same : firsts cs ≡ distinct zs = same-ascending (firsts cs) (distinct zs) a (distinct-ascends zs) (λ z. first-once cs a e z ∙ ap (λ n. cond (n == 0) 0 1) (h z) ∙ sym (distinct-times z zs)) in
    known cs a ∙ map-same (λ z. (z, tot cs z)) (λ z. (z, times zs z)) (λ z. ap (λ n. (z, n)) (h z)) (firsts cs) ∙ ap (map (λ z. (z, times zs z))) same

pub merged-value_counts : (cs : List (ℤ × ℕ)) (zs : List ℤ) → IsRising (firsts cs) → empties cs ≡ 0 → ((z : ℤ) → tot cs z ≡ times zs z) → merged cs ≡ value_counts zs
merged-value_counts [] zs r e h = are-value_counts [] zs tt refl h
merged-value_counts (c ∷ cs) zs r e h =
    let first = some-first c cs e in
    are-value_counts (merged_from c.0 c.1 cs) zs (merged-ascends c.0 c.1 cs r) (merged-some c.0 c.1 cs first.0 first.1) (λ z. tot-merged c.0 c.1 cs z ∙ sym (tot-cons c cs z) ∙ h z)

-- ---- there are no more distinct numbers than numbers

length-with : (z : ℤ) (ds : List ℤ) → length (with_number z ds) ≤ suc (length ds)
length-with z [] = omega arith
length-with z (d ∷ ds) = by-order z d (λ l. length l ≤ suc (suc (length ds))) ds (λ less. omega arith) (λ same. omega arith) (λ more. omega (arith, length-with z ds))

length-distinct : (zs : List ℤ) → length (distinct zs) ≤ length zs
length-distinct [] = omega arith
length-distinct (z ∷ zs) = omega (arith, length-with z (distinct zs), length-distinct zs)

pub length-value_counts : (zs : List ℤ) → length (value_counts zs) ≤ length zs
length-value_counts zs = let count : ℤ → ℤ × ℕ = λ z. (z, times zs z) in omega (arith, length-map (distinct zs) count, length-distinct zs)

pub times-few : (zs : List ℤ) (z : ℤ) → times zs z ≤ length zs
times-few zs z = count_by-le-length (int_eq z) zs

-- ---- the order of counts

pub total-permutation : {T : Type 0} (whole : T → ℤ) (xs ys : List (T × ℕ)) (z : ℤ) → IsPermutation xs ys → total whole ys z ≡ total whole xs z
total-permutation whole xs ys z p = sum_by-IsPermutation (λ c. share z (whole_count whole c)) xs ys p

pub empties-permutation : {T : Type 0} (xs ys : List (T × ℕ)) → IsPermutation xs ys → empties ys ≡ empties xs
empties-permutation xs ys p = sum_by-IsPermutation (λ c. cond (c.1 == 0) 1 0) xs ys p

module _ {T : Type 0} (whole : T → ℤ) (cmp : T → T → Ordering) (ordered : (a b : T) → cmp a b ≡ int_cmp (whole a) (whole b)) where
  abbrev by-both : T × ℕ → T × ℕ → Ordering
  by-both a b = ordering_then (cmp a.0 b.0) (nat_cmp a.1 b.1)

  by-first : (o p : Ordering) → is_lt (ordering_then o p) ≡ false → is_lt o ≡ false
  by-first Less p h = h
  by-first Equal p h = refl
  by-first Greater p h = refl

  later : (k : ℕ) → suc k + 1 ≡ suc (k + 1)
  later k = omega arith

  rising-after : (x : T × ℕ) (xs : List (T × ℕ)) → IsSorted by-both (x ∷ xs) → IsRisingFrom (whole x.0) (firsts (whole_counts whole xs))
  rising-after x [] s = tt
  rising-after x (y ∷ ys) s = (sym (less whole cmp ordered y.0 x.0) ∙ by-first (cmp y.0 x.0) (nat_cmp y.1 x.1) (s 0 x (omega arith) (omega arith)), rising-after y ys (λ k d low high. subst (λ n. is_lt (by-both (get_or (x ∷ y ∷ ys) n d) (get_or (y ∷ ys) k d)) ≡ false) (later k) (s (suc k) d (omega arith) (omega arith))))

  pub rising-counts : (xs : List (T × ℕ)) → IsSorted by-both xs → IsRising (firsts (whole_counts whole xs))
  rising-counts [] s = tt
  rising-counts (x ∷ xs) s = rising-after x xs s

-- ---- a loop's steps

module _ {T : Type 0} (whole : T → ℤ) where
  pub total-more : (xs : List (T × ℕ)) (c : T × ℕ) (z : ℤ) → total whole (xs ++ c ∷ []) z ≡ total whole xs z + share z (whole_count whole c)
  total-more xs c z =
      sum_by-append (λ d. share z (whole_count whole d)) xs (c ∷ []) ∙ ap (λ n. total whole xs z + n) (sum_by-cons (λ d. share z (whole_count whole d)) c [] ∙ omega arith)

  pub total-none : (xs : List (T × ℕ)) (c : T × ℕ) (z : ℤ) → c.1 ≡ 0 → total whole xs z ≡ total whole xs z + share z (whole_count whole c)
  total-none xs c z e = omega (arith, ap (λ n. share z (whole c.0, n)) e ∙ nothing (int_eq z (whole c.0)))
    where
      nothing : (b : Bool) → ◌≡◌ {A = ℕ} (cond b 0 0) 0
      nothing true = refl
      nothing false = refl

  pub empties-more : (xs : List (T × ℕ)) (c : T × ℕ) → 0 < c.1 → empties (xs ++ c ∷ []) ≡ empties xs
  empties-more xs c h = sum_by-append (λ d. cond (d.1 == 0) 1 0) xs (c ∷ []) ∙ omega (arith, empties-cons c [], ap ones (not-zero c.1 h))

  -- copies of a count of 0
  pub total-empty : (C : T × ℕ → Type 0) (x : T × ℕ) (xs : List (T × ℕ)) → AllByRecursion (λ y. (y ≡ x) ⊎ C y) xs → x.1 ≡ 0 → ((y : T × ℕ) → C y → y.1 ≡ 0) → (z : ℤ) → total whole xs z ≡ 0
  total-empty C x [] all zero copies z = refl
  total-empty C x (y ∷ ys) all zero copies z =
      let none : y.1 ≡ 0 = elim all.0 [
        | inl same ↦ ap (λ (c : T × ℕ). c.1) same ∙ zero
        | inr copy ↦ copies y copy
      ] in
      omega (arith, sum_by-cons (λ d. share z (whole_count whole d)) y ys, total-none [] y z none, total-empty C x ys all.1 zero copies z)

  -- counts from a place on
  pub total-next : (xs : List (T × ℕ)) (place : ℕ) (c : T × ℕ) (z : ℤ) → place < length xs → c ≡ get_or xs place c → total whole (drop place xs) z ≡ share z (whole_count whole c) + total whole (drop (place + 1) xs) z
  total-next xs place c z within is =
      ap (λ l. total whole l z) (drop_more xs place c within ∙ ap (λ d. d ∷ drop (place + 1) xs) (sym is)) ∙ sum_by-cons (λ d. share z (whole_count whole d)) c (drop (place + 1) xs)

  -- the count in a slot gets another one's place
  pub slot-put : (xs : List (T × ℕ)) (slot : ℕ) (c there : T × ℕ) (z : ℤ) → slot < length xs → there ≡ get_or xs slot there → total whole (set xs slot c) z + share z (whole_count whole there) ≡ total whole xs z + share z (whole_count whole c)
  slot-put xs slot c there z within is =
      ap (λ d. total whole (set xs slot c) z + share z (whole_count whole d)) is ∙ sum_by-set (λ d. share z (whole_count whole d)) xs slot c there within

  pub slot-again : (xs : List (T × ℕ)) (slot : ℕ) (x : T) (there : T × ℕ) (z : ℤ) → slot < length xs → there ≡ get_or xs slot there → int_eq (whole there.0) (whole x) ≡ true
      → total whole (set xs slot (there.0, there.1 + 1)) z ≡ total whole xs z + share z (whole x, 1)
  slot-again xs slot x there z within is same =
      let one = share-sum z (whole there.0) (whole x) there.1 1 (eq-same (whole there.0) (whole x) same) in
      omega (arith, slot-put xs slot (there.0, there.1 + 1) there z within is, one)

  pub slot-room : (xs : List (T × ℕ)) (slot : ℕ) (x : T) (there : T × ℕ) → slot < length xs → there ≡ get_or xs slot there → int_eq (whole there.0) (whole x) ≡ true → there.1 ≤ total whole xs (whole x)
  slot-room xs slot x there within is same =
      let all : share (whole x) (whole there.0, there.1) ≡ there.1 = ap (λ w. share (whole x) (w, there.1)) (eq-same (whole there.0) (whole x) same) ∙ ap (λ b. cond b there.1 0) (same-eq (whole x)) in
      let nothing : share (whole x) (whole there.0, 0) ≡ 0 = ap (λ w. share (whole x) (w, 0)) (eq-same (whole there.0) (whole x) same) ∙ ap (λ b. cond b 0 0) (same-eq (whole x)) in
      omega (arith, slot-put xs slot (there.0, 0) there (whole x) within is, all, nothing)

  -- one more number is seen
  pub seen-more : (all left : List ℤ) (w z : ℤ) (n : ℕ) → n + times (w ∷ left) z ≡ times all z → (n + share z (w, 1)) + times left z ≡ times all z
  seen-more all left w z n e = omega (arith, e, times-next z w left)

  pub seen-room : (all left : List ℤ) (w : ℤ) (n : ℕ) → n + times (w ∷ left) w ≡ times all w → n < length all
  seen-room all left w n e = omega (arith, e, times-next w w left, ap ones (same-eq w), times-few all w)

  pub few-seen : (items : List T) (bits : List Bool) (rest : List ℤ) (w : ℤ) (n : ℕ) → length bits ≡ length items → n + times (w ∷ rest) w ≡ times (left whole items bits 0) w → n < length items
  few-seen items bits rest w n same e =
      let long = length-map items whole in
      omega (arith, seen-room (left whole items bits 0) rest w n e, few-values bits (map whole items) (same ∙ sym long), long)

  pub times-left : (all rest : List ℤ) (z : ℤ) (n : ℕ) → rest ≡ [] → n + times rest z ≡ times all z → n ≡ times all z
  times-left all rest z n none e = omega (arith, e, ap (λ l. times l z) none)

  -- merging
  pub merged-start : (items : List (T × ℕ)) (c : T × ℕ) → (length items == 0) ≡ false → c ≡ get_or items 0 c → merged_from (whole c.0) c.1 (whole_counts whole (drop 1 items)) ≡ merged (whole_counts whole items)
  merged-start [] c some is = absurd cc
  merged-start (y ∷ ys) c some is = ap (λ (d : T × ℕ). merged_from (whole d.0) d.1 (whole_counts whole ys)) is

  pub merged-next : (items : List (T × ℕ)) (place : ℕ) (v : T) (c : T × ℕ) (n : ℕ) (done : List (T × ℕ)) (all : List (ℤ × ℕ)) → place < length items → c ≡ get_or items place c
      → whole_counts whole done ++ merged_from (whole v) n (whole_counts whole (drop place items)) ≡ all
      → (int_eq (whole v) (whole c.0) ≡ true → whole_counts whole done ++ merged_from (whole v) (n + c.1) (whole_counts whole (drop (place + 1) items)) ≡ all)
      × (int_eq (whole v) (whole c.0) ≡ false → whole_counts whole (done ++ (v, n) ∷ []) ++ merged_from (whole c.0) c.1 (whole_counts whole (drop (place + 1) items)) ≡ all)
  merged-next items place v c n done all within is e =
      let rest = whole_counts whole (drop (place + 1) items) in
      let next : merged_from (whole v) n (whole_counts whole (drop place items)) ≡ cond (int_eq (whole v) (whole c.0)) (merged_from (whole v) (n + c.1) rest) ((whole v, n) ∷ merged_from (whole c.0) c.1 rest) =
      ap (λ l. merged_from (whole v) n (whole_counts whole l)) (drop_more items place c within ∙ ap (λ y. y ∷ drop (place + 1) items) (sym is))
      in (
        λ t. ap (λ l. whole_counts whole done ++ l) (sym (next ∙ cond-true _ _ _ t)) ∙ e,
        λ f. done-more (whole_count whole) done (v, n) (merged_from (whole c.0) c.1 rest) all (ap (λ l. whole_counts whole done ++ l) (sym (next ∙ cond-false _ _ _ f)) ∙ e),
      )

  -- what is summed up of a number is no more than its total
  pub merged-room : (items : List (T × ℕ)) (v : T) (n : ℕ) (done rest : List (ℤ × ℕ)) → done ++ merged_from (whole v) n rest ≡ merged (whole_counts whole items) → n ≤ total whole items (whole v)
  merged-room items v n done rest e =
      let here : share (whole v) (whole v, n) ≡ n = ap (λ b. cond b n 0) (same-eq (whole v)) in
      omega (arith, sum_by-append (λ d. share (whole v) (whole_count (λ w. w) d)) done (merged_from (whole v) n rest), tot-merged (whole v) n rest (whole v), here, ap (λ l. tot l (whole v)) e, tot-all (whole_counts whole items) (whole v), total-whole whole items (whole v))
    where
      tot-all : (cs : List (ℤ × ℕ)) (x : ℤ) → tot (merged cs) x ≡ tot cs x
      tot-all [] x = refl
      tot-all (c ∷ cs) x = tot-merged c.0 c.1 cs x ∙ sym (tot-cons c cs x)

  -- ---- what counts make once they are sorted and merged

  pub made : (before after : List (T × ℕ)) (zs : List ℤ) → IsPermutation before after → IsRising (firsts (whole_counts whole after)) → empties before ≡ 0 → ((z : ℤ) → total whole before z ≡ times zs z) → merged (whole_counts whole after) ≡ value_counts zs
  made before after zs p r e h =
      merged-value_counts (whole_counts whole after) zs r (empties-whole whole after ∙ empties-permutation before after p ∙ e) (λ z. total-whole whole after z ∙ total-permutation whole before after z p ∙ h z)

  pub made-few : (before after : List (T × ℕ)) (zs : List ℤ) (z : ℤ) → IsPermutation before after → ((z : ℤ) → total whole before z ≡ times zs z) → total whole after z ≤ length zs
  made-few before after zs z p h = omega (arith, total-permutation whole before after z p, h z, times-few zs z)

  pub made-short : (cs : List (T × ℕ)) (zs : List ℤ) → whole_counts whole cs ≡ value_counts zs → length cs ≤ length zs
  made-short cs zs e = let count : T × ℕ → ℤ × ℕ = whole_count whole in omega (arith, length-map cs count, ap length e, length-value_counts zs)

  pub valid-few : (items : List T) (valid : Option (List Bool)) → validity_length valid (length items) ≡ true → length (valid_wholes (valid_rows valid (map int (map whole items)))) ≤ length items
  valid-few items None h = omega (arith, ap length (valid_wholes-map-int (map whole items)), length-map items whole)
  valid-few items (Some bits) h = let long = length-map items whole in omega (arith, few-values bits (map whole items) (eqb-true (length bits) (length items) h ∙ sym long), long)
