-- Whether all values are equal, one value further.
use Rattle.std.proofs.Common.{◌≡◌, ◌<◌, ◌≤◌, ◌∙◌, ℕ, zero, suc, ◌+◌, Bool, true, false, List, [], ◌∷◌, ◌++◌, take, length, get_or, cond, refl, sym, ap, arith}
use Rattle.std.specs.Prelude.{◌&&◌, ◌||◌, nat_lt, not, replicate}
use Rattle.std.specs.List.{list_all}
use Rattle.std.proofs.lemmas.Bool.{and_parts, and_from}
use Rattle.std.proofs.lemmas.Bool.Decides.{nat_tests}
use Rattle.std.proofs.lemmas.List.{take_all, take_more}
use Rattle.std.proofs.lemmas.List.Folds.{list_all-append}
use Rattle.vx_base.specs.PlainValue.{PlainValue, null, same_value, stored_value}
use Rattle.vx_base.specs.Storable.{same_refl}
use Rattle.vx_base.specs.PlainScalar.{PlainScalar}
use Rattle.vx_model.specs.Column.{column_of}
use Rattle.vx_model.specs.Rows.{row_at}
use Rattle.vx_model.specs.Tree.{constant, nulls}
use Rattle.vx_rules.specs.Aggregates.{all_equal, is_constant}
use Rattle.vx_rows.specs.Extremes.{valid_items}
use Rattle.vx_rows.proofs.ExtremeLemmas.{valid_items-next}

pub equal-none : (vs : List PlainValue) → length vs ≡ 0 → false ≡ all_equal vs
equal-none [] e = refl
equal-none (v ∷ vs) e = absurd (omega arith)

append-one : (p : PlainValue → Bool) (vs : List PlainValue) (v : PlainValue) → list_all p vs ≡ true → p v ≡ true → list_all p (vs ++ v ∷ []) ≡ true
append-one p [] v h k = and_from _ _ k refl
append-one p (w ∷ vs) v h k = let b = and_parts (p w) (list_all p vs) h in and_from _ _ b.0 (append-one p vs v b.1 k)

pub equal-more : (u : PlainValue) (vs : List PlainValue) (i : ℕ) → i < length vs → list_all (same_value u) (take i vs) ≡ true → same_value u (row_at vs i) ≡ true → list_all (same_value u) (take (i + 1) vs) ≡ true
equal-more u vs i h k e = ap (list_all (same_value u)) (take_more vs i null h) ∙ append-one (same_value u) (take i vs) (row_at vs i) k e

pub equal-first : (u : PlainValue) (vs : List PlainValue) → 0 < length vs → u ≡ row_at vs 0 → list_all (same_value u) (take 1 vs) ≡ true
equal-first u [] h e = absurd (omega arith)
equal-first u (v ∷ vs) h e = and_from _ _ (same_refl stored_value u v e) refl

pub equal-all : (u : PlainValue) (vs : List PlainValue) (i : ℕ) → 0 < length vs → u ≡ row_at vs 0 → length vs ≤ i → list_all (same_value u) (take i vs) ≡ true → true ≡ all_equal vs
equal-all u [] i h e l k = absurd (omega arith)
equal-all u (v ∷ vs) i h e l k =
    let all : list_all (same_value u) (v ∷ vs) ≡ true = sym (ap (list_all (same_value u)) (take_all i (v ∷ vs) l)) ∙ k in
    sym (ap (λ w. list_all (same_value w) vs) (sym e) ∙ (and_parts (same_value u v) (list_all (same_value u) vs) all).1)

not-all : (p : PlainValue → Bool) (vs : List PlainValue) (i : ℕ) → i < length vs → p (row_at vs i) ≡ false → list_all p vs ≡ false
not-all p [] i h e = absurd (omega arith)
not-all p (v ∷ vs) zero h e = ap (λ b. b && list_all p vs) e
not-all p (v ∷ vs) (suc i) h e = by (p v) (not-all p vs i (omega arith) e)
  where
    by : (b : Bool) → list_all p vs ≡ false → (b && list_all p vs) ≡ false
    by true k = k
    by false k = refl

pub equal-not : (u : PlainValue) (vs : List PlainValue) (i : ℕ) → 1 ≤ i → i < length vs → u ≡ row_at vs 0 → same_value u (row_at vs i) ≡ false → false ≡ all_equal vs
equal-not u [] i l h e k = absurd (omega arith)
equal-not u (v ∷ vs) zero l h e k = absurd (omega arith)
equal-not u (v ∷ vs) (suc i) l h e k = sym (ap (λ w. list_all (same_value w) vs) (sym e) ∙ not-all (same_value u) vs i (omega arith) k)

-- ---- of the items whose bit is true

items-part : (p : PlainValue → Bool) (b : Bool) (v : PlainValue) → list_all p (cond b (v ∷ []) []) ≡ (not b || p v)
items-part p true v = and-true (p v)
  where
    and-true : (c : Bool) → (c && true) ≡ c
    and-true true = refl
    and-true false = refl
items-part p false v = refl

pub items-more : (p : PlainValue → Bool) (bits : List Bool) (vs : List PlainValue) (i : ℕ) → i < length vs → length bits ≡ length vs
    → list_all p (valid_items (take (i + 1) bits) (take (i + 1) vs)) ≡ (list_all p (valid_items (take i bits) (take i vs)) && (not (get_or bits i false) || p (row_at vs i)))
items-more p bits vs i h e =
    ap (list_all p) (valid_items-next bits vs i (row_at vs i) (omega arith) h (index-same vs i h))
    ∙ list_all-append p (valid_items (take i bits) (take i vs)) (cond (get_or bits i false) (row_at vs i ∷ []) [])
    ∙ ap (λ b. list_all p (valid_items (take i bits) (take i vs)) && b) (items-part p (get_or bits i false) (row_at vs i))
  where
    index-same : (ws : List PlainValue) (j : ℕ) → j < length ws → row_at ws j ≡ get_or ws j (row_at ws j)
    index-same [] j l = absurd (omega arith)
    index-same (w ∷ ws) zero l = refl
    index-same (w ∷ ws) (suc j) l = index-same ws j (omega arith)

-- ---- one value in every row

all-same : (v : PlainValue) (n : ℕ) → list_all (same_value v) (replicate n v) ≡ true
all-same v zero = refl
all-same v (suc n) = and_from _ _ (same_refl stored_value v v refl) (all-same v n)

positive : (n : ℕ) → nat_lt 0 (suc n) ≡ true
positive n = grind (arith, nat_tests)

equal-same : (v : PlainValue) (n : ℕ) → all_equal (replicate n v) ≡ nat_lt 0 n
equal-same v zero = refl
equal-same v (suc n) = all-same v n ∙ sym (positive n)

pub constant-constant : (s : PlainScalar) (n : ℕ) → is_constant (column_of (constant s n)) ≡ nat_lt 0 n
constant-constant s n = equal-same s.value n

pub constant-nulls : (n : ℕ) → is_constant (column_of (nulls n)) ≡ nat_lt 0 n
constant-nulls n = equal-same null n

pub ruleset same_rows = (constant-constant, constant-nulls)
