-- Patches: the test that their indices ascend, and the search for the patch of a row.
use Rattle.std.proofs.Common.{◌≡◌, ◌<◌, ◌≤◌, ◌+◌, ◌&&◌, ℕ, zero, suc, pos, List, [], ◌∷◌, length, drop, drop-cons, refl, arith, add-one, below_more, ⊎_elim, Bool, inl, inr, sym, ◌∙◌, true, false, Some, None}
use Rattle.std.specs.Prelude.{nat_lt, nat_le}
use Rattle.std.specs.List.{list_all, position_or_len}
use Rattle.std.proofs.lemmas.Bool.{cond-true, cond-false, ltb-true, lt-ltb, le-ltb, le-leb, leb-true, and_from, eq-eqb, ne_eqb, cases_lt}
use Rattle.std.proofs.lemmas.Bool.Decides.{nat_tests}
use Rattle.std.proofs.lemmas.List.Sums.{position_or_len_is}
use Rattle.vx_base.specs.PlainValue.{PlainValue, null, int}
use Rattle.vx_model.specs.Rows.{row_at, is_index, index_of, place_of}
use Rattle.vx_model.specs.WellFormed.{ascend, lies_between, rises}

-- ---- one step of the test that indices ascend

join : (x a b r : Bool) → (a && r) ≡ (b && r) → (x && a && r) ≡ (x && b && r)
join true a b r e = e
join false a b r e = refl

never : (b : Bool) → (b && false) ≡ false
never true = refl
never false = refl

-- numbers that rise after a number are above it
above : (low n high : ℕ) (is : List PlainValue) → low ≤ n → (list_all (lies_between low high) is && rises (int (pos n) ∷ is)) ≡ (list_all (lies_between (n + 1) high) is && rises is)
above low n high [] h = refl
above low n high (int (pos m) ∷ is) h =
    elim (cases_lt n m) [
      | inl less ↦
          rw (le-leb low m (omega arith), le-leb (n + 1) m (omega arith), lt-ltb n m less)
          (join (nat_lt m high) _ _ (rises (int (pos m) ∷ is)) (above low m high is (omega arith) ∙ sym (above (n + 1) m high is (omega arith))))
      | inr more ↦
          let not_above : nat_le (n + 1) m ≡ false = grind (arith, nat_tests) in
          rw (le-ltb n m more, not_above) (never (nat_le low m && nat_lt m high && list_all (lies_between low high) is))
    ]
above low n high (v ∷ is) h = refl

by_test : (a l x r y : Bool) → (a ≡ true → (x && r) ≡ y) → (a && l && x && r) ≡ (a && l && y)
by_test true true x r y e = e refl
by_test true false x r y e = refl
by_test false l x r y e = refl

-- a number in front of others that ascend: it is within the ends, and they are above it
ascend-cons : (low high n : ℕ) (is : List PlainValue) → ascend low high (int (pos n) ∷ is) ≡ (nat_le low n && nat_lt n high && ascend (n + 1) high is)
ascend-cons low high n is = by_test (nat_le low n) (nat_lt n high) _ _ _ (λ t. above low n high is (leb-true low n t))

ascend_head : (low high : ℕ) (v : PlainValue) (vs : List PlainValue) (n : ℕ) → index_of v ≡ Some n → ascend low high (v ∷ vs) ≡ (nat_le low n && nat_lt n high && ascend (n + 1) high vs)
ascend_head low high (int (pos m)) vs n e = let same : m ≡ n = cc in ascend-cons low high m vs ∙ (λ i. nat_le low (same i) && nat_lt (same i) high && ascend (same i + 1) high vs)
ascend_head low high v vs n e = absurd cc

ascend_none : (low high : ℕ) (v : PlainValue) (vs : List PlainValue) → index_of v ≡ None → ascend low high (v ∷ vs) ≡ false
ascend_none low high (int (pos m)) vs e = absurd cc
ascend_none low high v vs e = refl

pub ascend-next : (low high : ℕ) (is : List PlainValue) (i n : ℕ) → i < length is → index_of (row_at is i) ≡ Some n → ascend low high (drop i is) ≡ (nat_le low n && nat_lt n high && ascend (n + 1) high (drop (i + 1) is))
ascend-next low high is i n h e = rw (drop-cons is i null h) (rw (add-one i) (ascend_head low high (row_at is i) (drop (suc i) is) n e))

pub ascend-stop : (low high : ℕ) (is : List PlainValue) (i : ℕ) → i < length is → index_of (row_at is i) ≡ None → ascend low high (drop i is) ≡ false
ascend-stop low high is i h e = rw (drop-cons is i null h) (ascend_none low high (row_at is i) (drop (suc i) is) e)

pub ascend-end : (low high : ℕ) (is : List PlainValue) (i : ℕ) → length is ≤ i → ascend low high (drop i is) ≡ true
ascend-end low high [] zero h = refl
ascend-end low high [] (suc i) h = refl
ascend-end low high (v ∷ is) zero h = absurd (omega arith)
ascend-end low high (v ∷ is) (suc i) h = ascend-end low high is i (omega arith)

pub ruleset ascend_steps = (ascend-next, ascend-stop, ascend-end)

-- ---- what indices that ascend rule out

three : (a b c : Bool) → (a && b && c) ≡ true → (a ≡ true) × (b ≡ true) × (c ≡ true)
three true true c e = (refl, refl, e)
three true false c e = absurd cc
three false b c e = absurd cc

-- and what each step of it says
pub ascend_parts : (low high n : ℕ) (is : List PlainValue) → ascend low high (int (pos n) ∷ is) ≡ true → (low ≤ n) × (n < high) × (ascend (n + 1) high is ≡ true)
ascend_parts low high n is e = let t = three (nat_le low n) (nat_lt n high) (ascend (n + 1) high is) (sym (ascend-cons low high n is) ∙ e) in (leb-true _ _ t.0, ltb-true _ _ t.1, t.2)

pub ascend_from : (low high n : ℕ) (is : List PlainValue) → low ≤ n → n < high → ascend (n + 1) high is ≡ true → ascend low high (int (pos n) ∷ is) ≡ true
ascend_from low high n is a b c = ascend-cons low high n is ∙ and_from _ _ (and_from _ _ (le-leb low n a) (lt-ltb n high b)) c

-- each is a whole number from low on, below high
pub ascend-within : (low high : ℕ) (is : List PlainValue) (i n : ℕ) → ascend low high is ≡ true → i < length is → index_of (row_at is i) ≡ Some n → (low ≤ n) × (n < high)
ascend-within low high [] i n e h f = absurd (omega arith)
ascend-within low high (int (pos m) ∷ is) zero n e h f = let p = ascend_parts low high m is e in let same : m ≡ n = cc in (omega arith, omega arith)
ascend-within low high (int (pos m) ∷ is) (suc i) n e h f =
    let p = ascend_parts low high m is e in
    let q = ascend-within (m + 1) high is i n p.2 (omega arith) f in
    (omega arith, q.1)
ascend-within low high (v ∷ is) i n e h f = absurd cc

pub ascend-index : (low high : ℕ) (is : List PlainValue) (i : ℕ) → ascend low high is ≡ true → i < length is → index_of (row_at is i) ≡ None → ⊥
ascend-index low high [] i e h f = absurd (omega arith)
ascend-index low high (int (pos m) ∷ is) zero e h f = cc
ascend-index low high (int (pos m) ∷ is) (suc i) e h f = ascend-index (m + 1) high is i (ascend_parts low high m is e).2 (omega arith) f
ascend-index low high (v ∷ is) i e h f = cc

-- no position below i has the index n
abbrev pub NoneBelow : List PlainValue → ℕ → ℕ → Type 0
NoneBelow is n i = (j : ℕ) → j < i → is_index (row_at is j) n ≡ false

-- no position from i on has it
abbrev pub NoneFrom : List PlainValue → ℕ → ℕ → Type 0
NoneFrom is n i = (j : ℕ) → i ≤ j → is_index (row_at is j) n ≡ false

pub none_below-start : (is : List PlainValue) (n : ℕ) → NoneBelow is n 0
none_below-start is n j h = absurd (omega arith)

pub none_from-end : (is : List PlainValue) (n i : ℕ) → length is ≤ i → NoneFrom is n i
none_from-end [] n i h zero l = refl
none_from-end [] n i h (suc j) l = refl
none_from-end (v ∷ is) n i h zero l = absurd (omega arith)
none_from-end (v ∷ is) n zero h (suc j) l = absurd (omega arith)
none_from-end (v ∷ is) n (suc i) h (suc j) l = none_from-end is n i (omega arith) j (omega arith)

pub not_index-of : (v : PlainValue) (n k : ℕ) → index_of v ≡ Some k → (k ≡ n → ⊥) → is_index v n ≡ false
not_index-of (int (pos m)) n k e h = let same : m ≡ k = cc in ne_eqb m n (λ r. h (omega arith))
not_index-of v n k e h = refl

pub earlier : (low high : ℕ) (is : List PlainValue) (n i k : ℕ) → ascend low high is ≡ true → i < length is → index_of (row_at is i) ≡ Some k → k ≤ n → NoneBelow is n i
earlier low high [] n i k e h f l j m = absurd (omega arith)
earlier low high (int (pos x) ∷ is) n zero k e h f l j m = absurd (omega arith)
earlier low high (int (pos x) ∷ is) n (suc i) k e h f l zero m =
    let q = ascend-within (x + 1) high is i k (ascend_parts low high x is e).2 (omega arith) f in ne_eqb x n (λ r. omega arith)
earlier low high (int (pos x) ∷ is) n (suc i) k e h f l (suc j) m = earlier (x + 1) high is n i k (ascend_parts low high x is e).2 (omega arith) f l j (omega arith)
earlier low high (v ∷ is) n i k e h f l j m = absurd cc

-- where the index at i is below n
pub none_below-next : (low high : ℕ) (is : List PlainValue) (n i k : ℕ) → ascend low high is ≡ true → i < length is → index_of (row_at is i) ≡ Some k → k < n → NoneBelow is n (i + 1)
none_below-next low high is n i k e h f l =
    below_more (λ j. is_index (row_at is j) n ≡ false) i (earlier low high is n i k e h f (omega arith)) (not_index-of (row_at is i) n k f (λ r. omega arith))

-- none is below the first
pub above_all : (low high : ℕ) (is : List PlainValue) (n : ℕ) → ascend low high is ≡ true → n < low → NoneFrom is n 0
above_all low high [] n e l zero m = refl
above_all low high [] n e l (suc j) m = refl
above_all low high (int (pos x) ∷ is) n e l zero m = let p = ascend_parts low high x is e in ne_eqb x n (λ r. omega arith)
above_all low high (int (pos x) ∷ is) n e l (suc j) m = let p = ascend_parts low high x is e in above_all (x + 1) high is n p.2 (omega arith) j (omega arith)
above_all low high (v ∷ is) n e l j m = absurd cc

-- where it is above n
pub none_from-next : (low high : ℕ) (is : List PlainValue) (n i k : ℕ) → ascend low high is ≡ true → i < length is → index_of (row_at is i) ≡ Some k → n < k → NoneFrom is n i
none_from-next low high [] n i k e h f l j m = absurd (omega arith)
none_from-next low high (int (pos x) ∷ is) n zero k e h f l zero m = let same : x ≡ k = cc in ne_eqb x n (λ r. omega arith)
none_from-next low high (int (pos x) ∷ is) n zero k e h f l (suc j) m = let same : x ≡ k = cc in above_all (x + 1) high is n (ascend_parts low high x is e).2 (omega arith) j (omega arith)
none_from-next low high (int (pos x) ∷ is) n (suc i) k e h f l zero m = absurd (omega arith)
none_from-next low high (int (pos x) ∷ is) n (suc i) k e h f l (suc j) m = none_from-next (x + 1) high is n i k (ascend_parts low high x is e).2 (omega arith) f l j (omega arith)
none_from-next low high (v ∷ is) n i k e h f l j m = absurd cc

-- ---- the place of a patch

pub is_index-of : (v : PlainValue) (n : ℕ) → index_of v ≡ Some n → is_index v n ≡ true
is_index-of (int (pos m)) n e = eq-eqb m n cc
is_index-of v n e = absurd cc

pub place-first : (is : List PlainValue) (n i : ℕ) → NoneBelow is n i → i < length is → is_index (row_at is i) n ≡ true → place_of is n ≡ Some i
place-first is n i b h e =
    let at : position_or_len (λ v. is_index v n) is ≡ i = position_or_len_is (λ v. is_index v n) is i null (omega arith) b (λ _. e) in
    rw at (cond-true _ _ _ (lt-ltb _ _ h))

-- where the index at i is n
pub place-found : (low high : ℕ) (is : List PlainValue) (n i : ℕ) → ascend low high is ≡ true → i < length is → index_of (row_at is i) ≡ Some n → place_of is n ≡ Some i
place-found low high is n i e h f = place-first is n i (earlier low high is n i n e h f (omega arith)) h (is_index-of (row_at is i) n f)

-- where none is
pub place-none : (is : List PlainValue) (n i : ℕ) → NoneBelow is n i → NoneFrom is n i → place_of is n ≡ None
place-none is n i b f =
    let at : position_or_len (λ v. is_index v n) is ≡ length is = position_or_len_is (λ v. is_index v n) is (length is) null (omega arith) (λ j l. nowhere j) (λ l. absurd (omega arith)) in
    rw at (cond-false _ _ _ (le-ltb (length is) (length is) (omega arith)))
  where
    nowhere : (j : ℕ) → is_index (row_at is j) n ≡ false
    nowhere j = ⊎_elim (b j) (f j) (cases_lt j i)

pub ruleset place_steps = (none_below-start, none_from-end, none_below-next, none_from-next, place-found, place-none)
