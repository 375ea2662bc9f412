-- A vote finds the number that more than half of the numbers are, and the verdict by its count is that by the most frequent one; where runs are short, no count is needed.
use Rattle.std.proofs.Common.{◌≡◌, ◌<◌, ◌≤◌, ◌+◌, ◌*◌, ◌∙◌, ℕ, suc, ℤ, pos, Bool, true, false, cond, List, [], ◌∷◌, length, map, take, drop, refl, sym, ap, subst, arith}
use Rattle.std.specs.Prelude.{◌-◌, ◌==◌, ◌||◌, ◌&&◌, nat_le, nat_lt, fold}
use Rattle.std.specs.Ordering.{int_eq}
use Rattle.std.proofs.lemmas.Bool.{cond_both, eqb-true, eqb-false, ne_eqb, lt-ltb, leb-true, ltb-true, ltb-false, and_parts}
use Rattle.std.proofs.lemmas.Int.{ints}
use Rattle.std.proofs.lemmas.List.{length-take-le, length-drop}
use Rattle.std.proofs.lemmas.List.Sums.{count_by-le-length, sum_by-take-drop}
use Rattle.vx_base.specs.PlainValue.{PlainValue, int}
use Rattle.vx_stats.specs.Distinct.{times, distinct}
use Rattle.vx_stats.specs.Distinct as numbers
use Rattle.vx_stats.specs.Runs.{better}
use Rattle.vx_stats.specs.Stats.{valid_wholes, value_count, average_run_length, most_frequent}
use Rattle.vx_stats.proofs.DistinctLemmas.{times-next, distinct-times, eq-same, best-most_frequent}
use Rattle.vx_stats.proofs.StatsLemmas.{valid_wholes-map-int}
use Rattle.vx_sparse_array.proofs.SharedLemmas.{frequent-few}
use Rattle.vx_schemes_runs.specs.Sparse.Meaning.{sparse_verdict}
use Rattle.vx_schemes_runs.specs.Sparse.Vote.{after_vote, winner, CountsMost}
use Rattle.vx_schemes_runs.proofs.Sparse.Runs.{runs-long}

-- ---- a vote

-- the invariant of the vote: the lead is at most how far the leader is ahead of the others, so a number that isn't the winner is at most half of all
abbrev Trails : ℤ → ℕ → ℕ → List ℤ → ℤ × ℕ → Type 0
Trails z times count zs leader = int_eq z (fold after_vote leader zs).0 ≡ false → 2 * times ≤ count

at_most : (b : Bool) (n : ℕ) → cond b n 0 ≤ n
at_most true n = omega arith
at_most false n = omega arith

one_more : (b : Bool) (n : ℕ) → cond b (n + 1) 0 ≡ cond b n 0 + cond {A = ℕ} b 1 0
one_more true n = refl
one_more false n = refl

apart : (a b : Bool) (n : ℕ) → 0 < n → (a ≡ true → b ≡ true → ⊥) → cond {A = ℕ} a 1 0 + cond b n 0 ≤ cond b (n - 1) 0 + 1
apart true true n some not = absurd (not refl refl)
apart true false n some not = omega arith
apart false true n some not = omega (arith, some)
apart false false n some not = omega arith

one-only : (c x z : ℤ) → int_eq c x ≡ false → int_eq z x ≡ true → int_eq z c ≡ true → ⊥
one-only c x z d e f = grind (arith, ints)

trailing : (zs : List ℤ) (c : ℤ) (k : ℕ) (z : ℤ) → Trails z (times zs z + cond (int_eq z c) k 0) (length zs + k) zs (c, k)
trailing [] c k z f = let none : cond (int_eq z c) k 0 ≡ 0 = ap (λ b. cond b k 0) f in omega (arith, none)
trailing (x ∷ xs) c k z f =
    cond_both (k == 0) (x, 1) (cond (int_eq c x) (c, k + 1) (c, k - 1)) (Trails z (times (x ∷ xs) z + cond (int_eq z c) k 0) (suc (length xs) + k) xs)
    (λ e h. fresh (eqb-true k 0 e) (trailing xs x 1 z h))
    (λ n. cond_both (int_eq c x) (c, k + 1) (c, k - 1) (Trails z (times (x ∷ xs) z + cond (int_eq z c) k 0) (suc (length xs) + k) xs) (λ e h. more (eq-same c x e) (trailing xs c (k + 1) z h))
    (λ e h. less (eqb-false k 0 n) e (trailing xs c (k - 1) z h))) f
  where
    fresh : k ≡ 0 → 2 * (times xs z + cond (int_eq z x) 1 0) ≤ length xs + 1 → 2 * (times (x ∷ xs) z + cond (int_eq z c) k 0) ≤ suc (length xs) + k
    fresh e h = omega (arith, h, e, times-next z x xs, at_most (int_eq z c) k)

    more : c ≡ x → 2 * (times xs z + cond (int_eq z c) (k + 1) 0) ≤ length xs + (k + 1) → 2 * (times (x ∷ xs) z + cond (int_eq z c) k 0) ≤ suc (length xs) + k
    more e h =
        let same : cond {A = ℕ} (int_eq z c) 1 0 ≡ cond (int_eq z x) 1 0 = ap (λ y. cond {A = ℕ} (int_eq z y) 1 0) e in
        omega (arith, h, times-next z x xs, one_more (int_eq z c) k, same)

    less : (k ≡ 0 → ⊥) → int_eq c x ≡ false → 2 * (times xs z + cond (int_eq z c) (k - 1) 0) ≤ length xs + (k - 1) → 2 * (times (x ∷ xs) z + cond (int_eq z c) k 0) ≤ suc (length xs) + k
    less some d h =
        let one : 0 < k = omega (arith, some) in
        omega (arith, h, one, times-next z x xs, apart (int_eq z x) (int_eq z c) k one (one-only c x z d))

-- more than half are the winner
elected : (zs : List ℤ) (z : ℤ) → length zs < 2 * times zs z → z ≡ winner zs
elected zs z most = by_test (int_eq z (winner zs)) refl
  where
    by_test : (b : Bool) → int_eq z (winner zs) ≡ b → z ≡ winner zs
    by_test true e = eq-same z (winner zs) e
    by_test false e = absurd (omega (arith, trailing zs (pos 0) 0 z e, most))

-- ---- no number occurs more often than the most frequent

best-grows : (b : ℤ × ℕ) (cs : List (ℤ × ℕ)) → b.1 ≤ (fold better b cs).1
best-grows b [] = omega arith
best-grows b (c ∷ cs) = omega (arith, better-above, best-grows (better b c) cs)
  where
    better-above : b.1 ≤ (better b c).1
    better-above = cond_both (nat_lt b.1 c.1) c b (λ d. b.1 ≤ d.1) (λ l. omega (arith, ltb-true b.1 c.1 l)) (λ g. omega arith)

better-last : (b c : ℤ × ℕ) → c.1 ≤ (better b c).1
better-last b c = cond_both (nat_lt b.1 c.1) c b (λ d. c.1 ≤ d.1) (λ l. omega arith) (λ g. omega (arith, ltb-false b.1 c.1 g))

module _ (f : ℤ → ℕ) where
  best-above : (w : ℤ) (b : ℤ × ℕ) (ds : List ℤ) → 0 < times ds w → f w ≤ (fold better b (map (λ z. (z, f z)) ds)).1
  best-above w b [] h = absurd (omega (arith, h))
  best-above w b (d ∷ ds) h = by_test (int_eq w d) refl (best-above w (better b (d, f d)) ds)
    where
      by_test : (t : Bool) → int_eq w d ≡ t → (0 < times ds w → f w ≤ (fold better (better b (d, f d)) (map (λ z. (z, f z)) ds)).1) → f w ≤ (fold better (better b (d, f d)) (map (λ z. (z, f z)) ds)).1
      by_test true e later =
          let same : f w ≡ f d = ap f (eq-same w d e) in
          omega (arith, same, better-last b (d, f d), best-grows (better b (d, f d)) (map (λ z. (z, f z)) ds))
      by_test false e later =
          let none : cond {A = ℕ} (int_eq w d) 1 0 ≡ 0 = ap (λ t. cond {A = ℕ} t 1 0) e in
          later (omega (arith, h, none, times-next w d ds))

  most-above : (w : ℤ) (ds : List ℤ) → 0 < times ds w → f w ≤ (numbers.most_frequent (map (λ z. (z, f z)) ds)).1
  most-above w [] h = absurd (omega (arith, h))
  most-above w (d ∷ ds) h = subst (λ c. f w ≤ c.1) (best-most_frequent (d, f d) (map (λ z. (z, f z)) ds)) (best-above w (d, f d) (d ∷ ds) h)

  -- it has its own count, or none
  best-own : (b : ℤ × ℕ) (ds : List ℤ) → b.1 ≤ f b.0 → (fold better b (map (λ z. (z, f z)) ds)).1 ≤ f (fold better b (map (λ z. (z, f z)) ds)).0
  best-own b [] h = h
  best-own b (d ∷ ds) h = best-own (better b (d, f d)) ds (cond_both (nat_lt b.1 (f d)) (d, f d) b (λ c. c.1 ≤ f c.0) (λ l. omega arith) (λ g. h))

  most-own : (ds : List ℤ) → (numbers.most_frequent (map (λ z. (z, f z)) ds)).1 ≤ f (numbers.most_frequent (map (λ z. (z, f z)) ds)).0
  most-own [] = omega arith
  most-own (d ∷ ds) = subst (λ c. c.1 ≤ f c.0) (best-most_frequent (d, f d) (map (λ z. (z, f z)) ds)) (best-own (d, f d) (d ∷ ds) (omega arith))

often-most : (vs : List PlainValue) (z : ℤ) → times (valid_wholes vs) z ≤ (most_frequent vs).1
often-most vs z = by_count (times (valid_wholes vs) z == 0) refl
  where
    there : (n : ℕ) → (n ≡ 0 → ⊥) → cond {A = ℕ} (n == 0) 0 1 ≡ 1
    there n some = rw (ne_eqb n 0 some) refl

    by_count : (b : Bool) → (times (valid_wholes vs) z == 0) ≡ b → times (valid_wholes vs) z ≤ (most_frequent vs).1
    by_count true e = omega (arith, eqb-true (times (valid_wholes vs) z) 0 e)
    by_count false e =
        let once = distinct-times z (valid_wholes vs) ∙ there (times (valid_wholes vs) z) (eqb-false _ _ e) in
        most-above (times (valid_wholes vs)) z (distinct (valid_wholes vs)) (omega (arith, once))

-- ---- the verdict

pub winner-few : (vs : List PlainValue) (count : ℕ) → CountsMost vs count → count ≤ value_count vs
winner-few vs count most = omega (arith, most.few, frequent-few vs)

-- how often a number occurs that is the most frequent one where that is 9 of 10
counts-most : (vs : List PlainValue) (w : ℤ) → (0 < value_count vs → 9 * value_count vs ≤ 10 * times (valid_wholes vs) (most_frequent vs).0 → (most_frequent vs).0 ≡ w) → CountsMost vs (times (valid_wholes vs) w)
counts-most vs w same = record { few = often-most vs w; most = λ many. by_count (value_count vs == 0) refl many }
  where
    own : (most_frequent vs).1 ≤ times (valid_wholes vs) (most_frequent vs).0
    own = most-own (times (valid_wholes vs)) (distinct (valid_wholes vs))

    by_count : (b : Bool) → (value_count vs == 0) ≡ b → 9 * value_count vs ≤ 10 * (most_frequent vs).1 → times (valid_wholes vs) w ≡ (most_frequent vs).1
    by_count true none many = omega (arith, eqb-true _ _ none, often-most vs w, frequent-few vs)
    by_count false some many =
        let here : times (valid_wholes vs) (most_frequent vs).0 ≡ times (valid_wholes vs) w = ap (times (valid_wholes vs)) (same (omega (arith, eqb-false (value_count vs) 0 some)) (omega (arith, own, many))) in
        omega (arith, here, own, often-most vs w)

-- all values vote
pub all-vote : (vs : List PlainValue) → CountsMost vs (times (valid_wholes vs) (winner (valid_wholes vs)))
all-vote vs = counts-most vs (winner (valid_wholes vs)) (λ some many. elected (valid_wholes vs) (most_frequent vs).0 (omega (arith, some, many)))

-- the first quarter votes
elected-early : (n : ℕ) (zs : List ℤ) (z : ℤ) → length zs ≤ 4 * n → n ≤ length zs → 0 < length zs → 9 * length zs ≤ 10 * times zs z → z ≡ winner (take n zs)
elected-early n zs z quarter within some many =
    elected (take n zs) z (omega (arith, quarter, within, some, many, length-take-le n zs within, length-drop n zs, count_by-le-length (int_eq z) (drop n zs), sum_by-take-drop (λ w. cond (int_eq z w) 1 0) zs n))

pub quarter-votes : (n : ℕ) (zs : List ℤ) → length zs ≤ 4 * n → n ≤ length zs → CountsMost (map int zs) (times zs (winner (take n zs)))
quarter-votes n zs quarter within =
    let are = valid_wholes-map-int zs in
    let votes : CountsMost (map int zs) (times (valid_wholes (map int zs)) (winner (take n zs))) = counts-most (map int zs) (winner (take n zs)) (λ some many. elected-early n zs (most_frequent (map int zs)).0 quarter within (subst (λ l. 0 < length l) are some) (subst (λ l. 9 * length l ≤ 10 * times l (most_frequent (map int zs)).0) are many)) in
    subst (λ l. CountsMost (map int zs) (times l (winner (take n zs)))) are votes

skips : (values often : ℕ) → 10 * often < 9 * values → ((often == values) || nat_lt (10 * often) (9 * values)) ≡ true
skips values often few = either (often == values) (nat_lt (10 * often) (9 * values)) (lt-ltb _ _ few)
  where
    either : (a b : Bool) → b ≡ true → (a || b) ≡ true
    either true b h = refl
    either false b h = h

-- where no value stands in 9 of 10 rows, a lower count skips as well
verdict-by : (rows nulls values count often : ℕ) → count ≤ often → (9 * values ≤ 10 * often → count ≡ often) → sparse_verdict rows nulls values count ≡ sparse_verdict rows nulls values often
verdict-by rows nulls values count often few most = by_tenths (nat_lt (10 * often) (9 * values)) refl
  where
    by_value : 10 * often < 9 * values → (b : Bool) → (values == 0) ≡ b → sparse_verdict rows nulls values count ≡ sparse_verdict rows nulls values often
    by_value rare true none = rw none refl
    by_value rare false some = rw (some, skips values count (omega (arith, few, rare)), skips values often rare) refl

    by_tenths : (b : Bool) → nat_lt (10 * often) (9 * values) ≡ b → sparse_verdict rows nulls values count ≡ sparse_verdict rows nulls values often
    by_tenths true e = by_value (ltb-true _ _ e) (values == 0) refl
    by_tenths false e = ap (sparse_verdict rows nulls values) (most (ltb-false _ _ e))

-- the verdict by the winner's count is that by the greatest
pub verdict-same : (rows nulls : ℕ) (vs : List PlainValue) (count : ℕ) → CountsMost vs count → sparse_verdict rows nulls (value_count vs) count ≡ sparse_verdict rows nulls (value_count vs) (most_frequent vs).1
verdict-same rows nulls vs count most = verdict-by rows nulls (value_count vs) count (most_frequent vs).1 most.few most.most

-- ---- without a vote

frequent-rare : (vs : List PlainValue) → 20 ≤ value_count vs → average_run_length vs < 4 → 10 * (most_frequent vs).1 < 9 * value_count vs
frequent-rare vs many short = by_test (nat_lt (10 * (most_frequent vs).1) (9 * value_count vs)) refl
  where
    by_test : (b : Bool) → nat_lt (10 * (most_frequent vs).1) (9 * value_count vs) ≡ b → 10 * (most_frequent vs).1 < 9 * value_count vs
    by_test true e = ltb-true _ _ e
    by_test false e =
        let own = most-own (times (valid_wholes vs)) (distinct (valid_wholes vs)) in
        absurd (omega (arith, short, runs-long (valid_wholes vs) (most_frequent vs).0 many (omega (arith, own, ltb-false _ _ e))))

-- where most rows are null, or runs are short, no count changes the verdict
pub verdict-unvoted : (rows nulls : ℕ) (vs : List PlainValue) → (nat_lt (9 * rows) (10 * nulls) || (nat_le 20 (value_count vs) && nat_lt (average_run_length vs) 4)) ≡ true
    → sparse_verdict rows nulls (value_count vs) 0 ≡ sparse_verdict rows nulls (value_count vs) (most_frequent vs).1
verdict-unvoted rows nulls vs told = by_tests (value_count vs == 0) (nat_lt (9 * rows) (10 * nulls)) refl refl told
  where
    by_tests : (a b : Bool) → (value_count vs == 0) ≡ a → nat_lt (9 * rows) (10 * nulls) ≡ b → (b || (nat_le 20 (value_count vs) && nat_lt (average_run_length vs) 4)) ≡ true
        → sparse_verdict rows nulls (value_count vs) 0 ≡ sparse_verdict rows nulls (value_count vs) (most_frequent vs).1
    by_tests true b none most h = rw none refl
    by_tests false true some most h = rw (some, most) refl
    by_tests false false some few h =
        let both = and_parts (nat_le 20 (value_count vs)) _ h in
        let many : 20 ≤ value_count vs = leb-true _ _ both.0 in
        rw (some, few, skips (value_count vs) 0 (omega (arith, many)), skips (value_count vs) (most_frequent vs).1 (frequent-rare vs many (ltb-true _ _ both.1))) refl

-- ---- a loop's steps

-- one more vote, or none
pub voted : (bit : Bool) (leader : ℤ × ℕ) (z : ℤ) (here rest : List ℤ) (next all : ℤ × ℕ) → here ≡ cond bit (z ∷ rest) rest → next ≡ cond bit (after_vote leader z) leader
    → fold after_vote leader here ≡ all → fold after_vote next rest ≡ all
voted true leader z here rest next all h n e = ap (λ l. fold after_vote l rest) n ∙ ap (fold after_vote leader) (sym h) ∙ e
voted false leader z here rest next all h n e = ap (λ l. fold after_vote l rest) n ∙ ap (fold after_vote leader) (sym h) ∙ e

-- one more number counted, or none
pub counted : (bit : Bool) (value z : ℤ) (here rest : List ℤ) (count one all : ℕ) → here ≡ cond bit (z ∷ rest) rest → one ≡ cond bit (cond (int_eq value z) 1 0) 0
    → count + times here value ≡ all → (count + one) + times rest value ≡ all
counted true value z here rest count one all h o e = omega (arith, e, o, ap (λ l. times l value) h, times-next value z rest)
counted false value z here rest count one all h o e = omega (arith, e, o, ap (λ l. times l value) h)
