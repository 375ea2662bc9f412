-- A column whose rows are all null, and one whose most frequent value is in every row, are that one value.
use Rattle.std.proofs.Common.{◌≡◌, ◌<◌, ◌≤◌, ◌+◌, ◌*◌, ◌∙◌, ℕ, suc, ℤ, pos, Bool, true, false, cond, List, [], ◌∷◌, length, map, Option, None, Some, refl, sym, ap, subst, arith}
use Rattle.std.specs.Prelude.{◌==◌, ◌||◌, find, unwrap_or, replicate}
use Rattle.std.specs.List.{list_all, list_any}
use Rattle.std.specs.Ordering.{int_eq}
use Rattle.std.proofs.lemmas.Bool.{cond_both, and_from, and_parts, ltb-true}
use Rattle.std.proofs.lemmas.Int.{ints}
use Rattle.std.proofs.lemmas.List.Sums.{sum_by-cons, count_by-le-length}
use Rattle.vx_base.specs.declared.ptype.PType.{PType}
use Rattle.vx_base.specs.Integers.{lies_in}
use Rattle.vx_base.specs.PlainScalar.{fits}
use Rattle.vx_base.specs.PlainType.{PlainType, is_integer}
use Rattle.vx_base.specs.PlainValue.{PlainValue, null, int, cell, is_null}
use Rattle.vx_base.proofs.FitLemmas.{lies_in-zero}
use Rattle.vx_base.proofs.IntegerLemmas.{by_integer, by_cells, integers-lie_in}
use Rattle.vx_base.proofs.NullLemmas.{null-fitted}
use Rattle.vx_model.specs.Column.{Column, IsColumn}
use Rattle.vx_stats.specs.Distinct.{times, with_number, distinct, greatest_count}
use Rattle.vx_stats.specs.Stats.{valid_wholes, value_count, null_count, most_frequent, distinct_counts}
use Rattle.vx_sparse_array.specs.Filling.{is_mostly_null}

-- ---- the most frequent number

-- what is found among numbers with a property has it
found : (q : ℤ → Bool) (f : ℤ → ℕ) (p : ℤ × ℕ → Bool) (zs : List ℤ) → q (pos 0) ≡ true → list_all q zs ≡ true → q (unwrap_or (find p (map (λ z. (z, f z)) zs)) (pos 0, 0)).0 ≡ true
found q f p [] none h = none
found q f p (z ∷ zs) none h = pick (p (z, f z)) (found q f p zs none b.1)
  where
    b : (q z ≡ true) × (list_all q zs ≡ true)
    b = and_parts (q z) (list_all q zs) h

    pick : (t : Bool) → q (unwrap_or (find p (map (λ z. (z, f z)) zs)) (pos 0, 0)).0 ≡ true → q (unwrap_or (cond t (Some (z, f z)) (find p (map (λ z. (z, f z)) zs))) (pos 0, 0)).0 ≡ true
    pick true rest = b.0
    pick false rest = rest

-- it has its own count, or none
found-count : (f : ℤ → ℕ) (p : ℤ × ℕ → Bool) (zs : List ℤ) → (unwrap_or (find p (map (λ z. (z, f z)) zs)) (pos 0, 0)).1 ≤ f (unwrap_or (find p (map (λ z. (z, f z)) zs)) (pos 0, 0)).0
found-count f p [] = omega arith
found-count f p (z ∷ zs) = pick (p (z, f z)) (found-count f p zs)
  where
    pick : (t : Bool) → (unwrap_or (find p (map (λ z. (z, f z)) zs)) (pos 0, 0)).1 ≤ f (unwrap_or (find p (map (λ z. (z, f z)) zs)) (pos 0, 0)).0
        → (unwrap_or (cond t (Some (z, f z)) (find p (map (λ z. (z, f z)) zs))) (pos 0, 0)).1 ≤ f (unwrap_or (cond t (Some (z, f z)) (find p (map (λ z. (z, f z)) zs))) (pos 0, 0)).0
    pick true rest = omega arith
    pick false rest = rest

with-all : (q : ℤ → Bool) (z : ℤ) (ws : List ℤ) → q z ≡ true → list_all q ws ≡ true → list_all q (with_number z ws) ≡ true
with-all q z [] here h = and_from _ _ here refl
with-all q z (w ∷ ws) here h =
    let b = and_parts (q w) (list_all q ws) h in
    cond_both _ (z ∷ w ∷ ws) (cond (int_eq z w) (w ∷ ws) (w ∷ with_number z ws)) (λ l. list_all q l ≡ true) (λ _. and_from _ _ here h)
    (λ _. cond_both (int_eq z w) (w ∷ ws) (w ∷ with_number z ws) (λ l. list_all q l ≡ true) (λ _. h) (λ _. and_from _ _ b.0 (with-all q z ws here b.1)))

distinct-all : (q : ℤ → Bool) (zs : List ℤ) → list_all q zs ≡ true → list_all q (distinct zs) ≡ true
distinct-all q [] h = refl
distinct-all q (z ∷ zs) h = let b = and_parts (q z) (list_all q zs) h in with-all q z (distinct zs) b.0 (distinct-all q zs b.1)

frequent-held : (p : PType) (vs : List PlainValue) → list_all (lies_in p) (valid_wholes vs) ≡ true → lies_in p (most_frequent vs).0 ≡ true
frequent-held p vs h = found (lies_in p) (times (valid_wholes vs)) _ (distinct (valid_wholes vs)) (lies_in-zero p) (distinct-all (lies_in p) (valid_wholes vs) h)

pub frequent-fits : (c : Column) → is_integer c.dtype ≡ true → IsColumn c → fits c.dtype (int (most_frequent c.values).0) ≡ true
frequent-fits c j h =
    by_integer (λ t. list_all (fits t) c.values ≡ true → fits t (int (most_frequent c.values).0) ≡ true) (λ p n k. frequent-held p c.values (integers-lie_in p n c.values k)) c.dtype j h

-- ---- where it is as frequent as there are rows, each row has it

same-int : (z w : ℤ) → int_eq z w ≡ true → z ≡ w
same-int z w h = grind (arith, ints)

all-same : (z : ℤ) (os : List (Option ℤ)) → length os ≤ times (valid_wholes (map cell os)) z → replicate (length os) (int z) ≡ map cell os
all-same z [] h = refl
all-same z (None ∷ os) h = absurd (omega (arith, count_by-le-length (int_eq z) (valid_wholes (map cell os)), few os))
  where
    few : (os : List (Option ℤ)) → length (valid_wholes (map cell os)) ≤ length os
    few [] = omega arith
    few (None ∷ os) = omega (arith, few os)
    few (Some w ∷ os) = omega (arith, few os)
all-same z (Some w ∷ os) h = pick (int_eq z w) refl (sum_by-cons (λ x. cond {A = ℕ} (int_eq z x) 1 0) w (valid_wholes (map cell os))) (all-same z os)
  where
    few : (os : List (Option ℤ)) → length (valid_wholes (map cell os)) ≤ length os
    few [] = omega arith
    few (None ∷ os) = omega (arith, few os)
    few (Some w ∷ os) = omega (arith, few os)

    pick : (b : Bool) → int_eq z w ≡ b → times (w ∷ valid_wholes (map cell os)) z ≡ cond (int_eq z w) 1 0 + times (valid_wholes (map cell os)) z
        → (length os ≤ times (valid_wholes (map cell os)) z → replicate (length os) (int z) ≡ map cell os) → replicate (length (Some w ∷ os)) (int z) ≡ map cell (Some w ∷ os)
    pick true e more others = let one : cond {A = ℕ} (int_eq z w) 1 0 ≡ 1 = ap {B = ℕ} (λ b. cond b 1 0) e in let here : z ≡ w = same-int z w e in let rest = others (omega arith) in λ i. int (here i) ∷ rest i
    pick false e more others =
        let none : cond {A = ℕ} (int_eq z w) 1 0 ≡ 0 = ap {B = ℕ} (λ b. cond b 1 0) e in
        absurd (omega (arith, count_by-le-length (int_eq z) (valid_wholes (map cell os)), few os))

pub frequent-shared : (c : Column) → is_integer c.dtype ≡ true → IsColumn c → (most_frequent c.values).1 ≡ length c.values → replicate (length c.values) (int (most_frequent c.values).0) ≡ c.values
frequent-shared c j h e =
    let z = (most_frequent c.values).0 in
    let most : length c.values ≤ times (valid_wholes c.values) z = omega (arith, found-count (times (valid_wholes c.values)) (λ d. d.1 == greatest_count (distinct_counts c.values)) (distinct (valid_wholes c.values))) in
    by_integer (λ t. list_all (fits t) c.values ≡ true → replicate (length c.values) (int z) ≡ c.values)
    (λ p n k. by_cells p n (λ vs. length vs ≤ times (valid_wholes vs) z → replicate (length vs) (int z) ≡ vs) (λ os f l. shared os l) c.values k most) c.dtype j h
  where
    long : (os : List (Option ℤ)) → length (map cell os) ≡ length os
    long [] = refl
    long (o ∷ os) = ap suc (long os)

    shared : (os : List (Option ℤ)) → length (map cell os) ≤ times (valid_wholes (map cell os)) (most_frequent c.values).0 → replicate (length (map cell os)) (int (most_frequent c.values).0) ≡ map cell os
    shared os l = ap (λ n. replicate n (int (most_frequent c.values).0)) (long os) ∙ all-same (most_frequent c.values).0 os (omega (arith, long os))

-- it occurs in no more rows than have a value
pub frequent-few : (vs : List PlainValue) → (most_frequent vs).1 ≤ value_count vs
frequent-few vs =
    omega (arith, found-count (times (valid_wholes vs)) (λ d. d.1 == greatest_count (distinct_counts vs)) (distinct (valid_wholes vs)), count_by-le-length (int_eq (most_frequent vs).0) (valid_wholes vs))

-- ---- without a value every row is null

all-null : (os : List (Option ℤ)) → length (valid_wholes (map cell os)) ≡ 0 → replicate (length (map cell os)) null ≡ map cell os
all-null [] e = refl
all-null (None ∷ os) e = ap (λ vs. null ∷ vs) (all-null os e)
all-null (Some z ∷ os) e = absurd (omega arith)

pub nulls-shared : (c : Column) → is_integer c.dtype ≡ true → IsColumn c → value_count c.values ≡ 0 → replicate (length c.values) null ≡ c.values
nulls-shared c j h e =
    by_integer (λ t. list_all (fits t) c.values ≡ true → replicate (length c.values) null ≡ c.values)
    (λ p n k. by_cells p n (λ vs. value_count vs ≡ 0 → replicate (length vs) null ≡ vs) (λ os f l. all-null os l) c.values k e) c.dtype j h

-- rows that are all null fit a type that has null
first-fits : (t : PlainType) (vs : List PlainValue) → 0 < length vs → list_all (fits t) vs ≡ true → replicate (length vs) null ≡ vs → fits t null ≡ true
first-fits t [] some h e = absurd (omega arith)
first-fits t (v ∷ vs) some h e = let first : null ≡ v = cc in subst (λ w. fits t w ≡ true) (sym first) (and_parts (fits t v) (list_all (fits t) vs) h).0

pub null-fits : (c : Column) → is_integer c.dtype ≡ true → IsColumn c → 0 < length c.values → value_count c.values ≡ 0 → fits c.dtype null ≡ true
null-fits c j h some e = first-fits c.dtype c.values some h (nulls-shared c j h e)

-- ---- where most rows are null, the type has null

counted-null : (vs : List PlainValue) → 0 < null_count vs → list_any is_null vs ≡ true
counted-null [] h = absurd (omega arith)
counted-null (v ∷ vs) h = pick (is_null v) refl (sum_by-cons (λ w. cond {A = ℕ} (is_null w) 1 0) v vs) (counted-null vs)
  where
    pick : (b : Bool) → is_null v ≡ b → null_count (v ∷ vs) ≡ cond (is_null v) 1 0 + null_count vs → (0 < null_count vs → list_any is_null vs ≡ true) → (is_null v || list_any is_null vs) ≡ true
    pick true e more others = ap (λ b. b || list_any is_null vs) e
    pick false e more others =
        let none : cond {A = ℕ} (is_null v) 1 0 ≡ 0 = ap {B = ℕ} (λ b. cond b 1 0) e in
        ap (λ b. b || list_any is_null vs) e ∙ others (omega arith)

pub mostly-null-fits : (c : Column) → IsColumn c → is_mostly_null c.values ≡ true → fits c.dtype null ≡ true
mostly-null-fits c h most = let more = ltb-true (9 * length c.values) (10 * null_count c.values) most in null-fitted c.dtype c.values h (counted-null c.values (omega arith))
