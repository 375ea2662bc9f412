-- Rows of a column of integers by their numbers are a column of its type, and rows that don't differ are equal.
use Rattle.std.proofs.Common.{◌≡◌, ◌<◌, ◌≤◌, ◌+◌, ◌-◌, ◌∙◌, ℕ, zero, suc, ℤ, Bool, true, false, cond, List, [], ◌∷◌, length, map, get_or, Option, None, Some, refl, sym, ap, arith}
use Rattle.std.specs.Prelude.{nat_lt, not, filter}
use Rattle.std.specs.List.{list_all, range_with_len}
use Rattle.std.specs.Ordering.{int_eq}
use Rattle.std.proofs.Math.ListN.{get_or-map}
use Rattle.std.proofs.lemmas.Bool.{and_from, and_parts, ltb-true}
use Rattle.std.proofs.lemmas.Int.{ints}
use Rattle.std.proofs.lemmas.List.{ext_get_or}
use Rattle.vx_base.specs.declared.ptype.PType.{PType}
use Rattle.vx_base.specs.declared.dtype.Nullability.{Nullability}
use Rattle.vx_base.specs.IntegersIn.{integer_in}
use Rattle.vx_base.specs.PlainScalar.{fits}
use Rattle.vx_base.specs.PlainType.{is_integer}
use Rattle.vx_base.specs.PlainType as types
use Rattle.vx_base.specs.PlainValue.{PlainValue, null, cell}
use Rattle.vx_base.proofs.IntegerLemmas.{by_integer, row-integer_in}
use Rattle.vx_blocks.specs.Optional.{same_row, differs}
use Rattle.vx_model.specs.Column.{Column, IsColumn}
use Rattle.vx_model.specs.Rows.{row_at, below}
use Rattle.vx_model.proofs.FrameOfReferenceLemmas.{row_passes}
use Rattle.vx_model.proofs.PackedLemmas.{length-below, row_at-below}
use Rattle.vx_schemes_runs.specs.RowsAt.{optional_wholes, rows_at}

-- ---- rows that are equal

same-is : (a b : Option ℤ) → same_row a b ≡ true → a ≡ b
same-is None None h = refl
same-is None (Some w) h = absurd cc
same-is (Some z) None h = absurd cc
same-is (Some z) (Some w) h = ap Some (same_number h)
  where
    same_number : int_eq z w ≡ true → z ≡ w
    same_number e = grind (arith, ints)

-- a row that doesn't differ from the one before it is equal to it
abbrev pub RowsFollow : List (Option ℤ) → List PlainValue → Type 0
RowsFollow os vs = (i : ℕ) → differs os i ≡ false → row_at vs (i - 1) ≡ row_at vs i

pub rows_follow : (c : Column) → is_integer c.dtype ≡ true → IsColumn c → RowsFollow (optional_wholes c) c.values
rows_follow c j h i e = by_integer (λ t. list_all (fits t) c.values ≡ true → row_at c.values (i - 1) ≡ row_at c.values i) of_type c.dtype j h
  where
    is_true : (b : Bool) → not b ≡ false → b ≡ true
    is_true true q = refl
    is_true false q = absurd cc

    same : get_or (map integer_in c.values) (i - 1) None ≡ get_or (map integer_in c.values) i None
    same = same-is (get_or (map integer_in c.values) (i - 1) None) (get_or (map integer_in c.values) i None) (is_true (same_row (get_or (map integer_in c.values) (i - 1) None) (get_or (map integer_in c.values) i None)) e)

    wholes : integer_in (row_at c.values (i - 1)) ≡ integer_in (row_at c.values i)
    wholes = sym (get_or-map integer_in c.values (i - 1) null) ∙ same ∙ get_or-map integer_in c.values i null

    of_type : (p : PType) (n : Nullability) → list_all (fits (types.primitive p n)) c.values ≡ true → row_at c.values (i - 1) ≡ row_at c.values i
    of_type p n k = sym (row-integer_in p n c.values (i - 1) k) ∙ ap cell wholes ∙ row-integer_in p n c.values i k

-- ---- rows by their numbers

all_at : (p : PlainValue → Bool) (vs : List PlainValue) (numbers : List ℕ) → list_all p vs ≡ true → list_all (λ k. nat_lt k (length vs)) numbers ≡ true → list_all p (map (row_at vs) numbers) ≡ true
all_at p vs [] h l = refl
all_at p vs (k ∷ numbers) h l =
    let b = and_parts (nat_lt k (length vs)) (list_all (λ j. nat_lt j (length vs)) numbers) l in
    and_from _ _ (row_passes p vs k (ltb-true k (length vs) b.0) h) (all_at p vs numbers h b.1)

pub rows_at-column : (c : Column) (numbers : List ℕ) → IsColumn c → list_all (λ k. nat_lt k (length c.values)) numbers ≡ true → IsColumn (rows_at c numbers)
rows_at-column c numbers h l = all_at (fits c.dtype) c.values numbers h l

-- ---- numbers of a range

pub all_filtered : (q p : ℕ → Bool) (start n : ℕ) → ((j : ℕ) → start ≤ j → j < start + n → q j ≡ true) → list_all q (filter p (range_with_len start n)) ≡ true
all_filtered q p start zero h = refl
all_filtered q p start (suc n) h = pick (p start) (all_filtered q p (start + 1) n (λ j l m. h j (omega arith) (omega arith)))
  where
    pick : (b : Bool) → list_all q (filter p (range_with_len (start + 1) n)) ≡ true → list_all q (cond b (start ∷ filter p (range_with_len (start + 1) n)) (filter p (range_with_len (start + 1) n))) ≡ true
    pick true rest = and_from _ _ (h start (omega arith) (omega arith)) rest
    pick false rest = rest

pub few_filtered : (p : ℕ → Bool) (start n : ℕ) → length (filter p (range_with_len start n)) ≤ n
few_filtered p start zero = omega arith
few_filtered p start (suc n) = pick (p start) (few_filtered p (start + 1) n)
  where
    pick : (b : Bool) → length (filter p (range_with_len (start + 1) n)) ≤ n → length (cond b (start ∷ filter p (range_with_len (start + 1) n)) (filter p (range_with_len (start + 1) n))) ≤ suc n
    pick true rest = omega arith
    pick false rest = omega arith

pub all_mapped : (q : ℕ → Bool) (f : ℕ → ℕ) (start n : ℕ) → ((j : ℕ) → start ≤ j → j < start + n → q (f j) ≡ true) → list_all q (map f (range_with_len start n)) ≡ true
all_mapped q f start zero h = refl
all_mapped q f start (suc n) h = and_from _ _ (h start (omega arith) (omega arith)) (all_mapped q f (start + 1) n (λ j l m. h j (omega arith) (omega arith)))

-- what is each row at its number is the rows
pub below-is : (f : ℕ → PlainValue) (vs : List PlainValue) (n : ℕ) → n ≡ length vs → ((i : ℕ) → i < n → f i ≡ row_at vs i) → below f n ≡ vs
below-is f vs n long each =
    ext_get_or null (below f n) vs (length-below f n ∙ long) (λ i l. (let low : i < n = omega (arith, length-below f n) in row_at-below f n i low ∙ each i low))
