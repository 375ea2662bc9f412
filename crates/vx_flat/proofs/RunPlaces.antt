-- The places of runs and of runs in blocks, and lemmas on `below f n`, the values of f at each number below n.
use Rattle.std.proofs.Common.{◌≡◌, inl, inr, ◌<◌, ◌≤◌, ◌+◌, ◌++◌, ◌∙◌, ℕ, zero, suc, pos, List, [], ◌∷◌, map, length, Bool, true, false, cond, refl, sym, ap, arith}
use Rattle.std.specs.Prelude.{int_lt, ◌&&◌}
use Rattle.std.specs.List.{list_all, range_with_len}
use Rattle.std.proofs.lemmas.Bool.{ltb-false, cases_lt, and_parts}
use Rattle.std.proofs.lemmas.List.FromFn.{map-range_with_len_more}
use Rattle.vx_base.specs.PlainValue.{PlainValue, whole_or_zero}
use Rattle.vx_model.specs.Rows.{row_at, below, run_value}
use Rattle.vx_model.proofs.RunEndLemmas.{last_end, is_behind, later_end}
use Rattle.vx_values.specs.Placed.{run_of_row}

-- the same of numbers that are the same below another
pub below-same : {A : Type 0} (f g : ℕ → A) (n : ℕ) → ((i : ℕ) → i < n → f i ≡ g i) → below f n ≡ below g n
below-same f g n h = from_row 0 n (λ i l. h i (omega arith))
  where
    from_row : (start count : ℕ) → ((i : ℕ) → i < start + count → f i ≡ g i) → map f (range_with_len start count) ≡ map g (range_with_len start count)
    from_row start zero each = refl
    from_row start (suc count) each = λ k. each start (omega arith) k ∷ from_row (start + 1) count (λ i l. each i (omega arith)) k

pub passing : {A : Type 0} (p : A → Bool) (f : ℕ → A) (n : ℕ) → ((i : ℕ) → i < n → p (f i) ≡ true) → list_all p (below f n) ≡ true
passing p f n h = from_row 0 n (λ i l. h i (omega arith))
  where
    from_row : (start count : ℕ) → ((i : ℕ) → i < start + count → p (f i) ≡ true) → list_all p (map f (range_with_len start count)) ≡ true
    from_row start zero each = refl
    from_row start (suc count) each = rw (each start (omega arith), from_row (start + 1) count (λ i l. each i (omega arith))) refl

-- one place more
pub passing-next : {A : Type 0} (p : A → Bool) (f : ℕ → A) (n : ℕ) → list_all p (below f n) ≡ true → p (f n) ≡ true → list_all p (below f (n + 1)) ≡ true
passing-next {A} p f n so_far next = ap (list_all p) (map-range_with_len_more f 0 n n (omega arith)) ∙ joined (below f n) so_far
  where
    joined : (xs : List A) → list_all p xs ≡ true → list_all p (xs ++ f n ∷ []) ≡ true
    joined [] h = rw next refl
    joined (x ∷ xs) h = let b = and_parts (p x) (list_all p xs) h in rw (b.0, joined xs b.1) refl

-- and one that fails
pub passing-fails : {A : Type 0} (p : A → Bool) (f : ℕ → A) (n i : ℕ) → i < n → p (f i) ≡ false → list_all p (below f n) ≡ false
passing-fails p f n i l fails = from_row 0 n (omega arith) (omega arith)
  where
    never : (b : Bool) → (b && false) ≡ false
    never true = refl
    never false = refl

    from_row : (start count : ℕ) → start ≤ i → i < start + count → list_all p (map f (range_with_len start count)) ≡ false
    from_row start zero a b = absurd (omega arith)
    from_row start (suc count) a b =
        elim (cases_lt start i) [
          | inl less ↦ ap (λ rest. p (f start) && rest) (from_row (start + 1) count (omega arith) (omega arith)) ∙ never (p (f start))
          | inr more ↦ let same : i ≡ start = omega arith in rw (ap (λ k. p (f k)) (sym same) ∙ fails) refl
        ]

pub ruleset sum_places = (passing-next, passing-fails)

-- ---- the numbers of runs

-- a row's run is there, and its value is the row's
pub run_value-number : (ends values : List PlainValue) (i : ℕ) → length ends ≡ length values → i < last_end ends → (run_of_row ends i < length ends) × (run_value ends values i ≡ row_at values (run_of_row ends i))
run_value-number [] values i e l = absurd (omega arith)
run_value-number (v ∷ ends) [] i e l = absurd (omega arith)
run_value-number (v ∷ ends) (w ∷ values) i e l = pick (int_lt (pos i) (whole_or_zero v)) refl (λ later. run_value-number ends values i (omega arith) later)
  where
    pick : (b : Bool) → int_lt (pos i) (whole_or_zero v) ≡ b → (i < last_end ends → (run_of_row ends i < length ends) × (run_value ends values i ≡ row_at values (run_of_row ends i)))
        → (cond b 0 (suc (run_of_row ends i)) < suc (length ends)) × (cond b w (run_value ends values i) ≡ row_at (w ∷ values) (cond b 0 (suc (run_of_row ends i))))
    pick true t others = (omega arith, refl)
    pick false t others = let rest = others (later_end v ends i (ltb-false _ _ (sym (is_behind v i) ∙ t)) l) in (let a = rest.0 in omega arith, rest.1)
