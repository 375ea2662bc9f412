-- Integer types and their values, each of which is null or an integer.
use Rattle.std.proofs.Common.{◌≡◌, ◌≤◌, ℕ, zero, suc, ℤ, pos, List, [], ◌∷◌, map, length, true, false, refl, subst, arith, Some, None}
use Rattle.std.specs.Prelude.{Option, not, slice_index_or, unwrap_or}
use Rattle.std.specs.List.{list_all, cons_option}
use Rattle.std.proofs.lemmas.Bool.{and_from, and_parts}
use Rattle.vx_base.proofs.CellLemmas.{cell-integer_in}
use Rattle.vx_base.specs.declared.ptype.PType.{PType}
use Rattle.vx_base.specs.declared.dtype.Nullability.{Nullability}
use Rattle.vx_base.specs.Integers.{lies_in, is_signed}
use Rattle.vx_base.specs.IntegersIn.{integer_in, integers_in}
use Rattle.vx_base.specs.PlainScalar.{fits}
use Rattle.vx_base.specs.PlainType.{PlainType, primitive, is_integer, is_leaf, is_timestamp, is_unsigned, integer_of, nullability_of}
use Rattle.vx_base.specs.PlainValue.{PlainValue, null, int, cell, is_null, whole_or_zero}

pub integer_type : (t : PlainType) → is_integer t ≡ true → t ≡ primitive (integer_of t) (nullability_of t)
integer_type (primitive p n) h = refl
integer_type t h = absurd cc

-- what holds of every integer type holds of a type that is one
pub by_integer : (P : PlainType → Type 0) → ((p : PType) (n : Nullability) → P (primitive p n)) → (t : PlainType) → is_integer t ≡ true → P t
by_integer P each (primitive p n) h = each p n
by_integer P each t h = absurd cc

pub integer-is_leaf : (t : PlainType) → is_integer t ≡ true → is_leaf t ≡ true
integer-is_leaf (primitive p n) h = refl
integer-is_leaf t h = absurd cc

-- a type with whole numbers is an integer or a timestamp type
pub integer-fitted : (t : PlainType) (z : ℤ) → is_timestamp t ≡ false → fits t (int z) ≡ true → is_integer t ≡ true
integer-fitted (primitive p n) z s h = refl
integer-fitted t z s h = absurd cc

-- an unsigned type is an integer type
pub is_unsigned-is_integer : (t : PlainType) → is_unsigned t ≡ true → is_integer t ≡ true
is_unsigned-is_integer t h = (and_parts (is_integer t) (not (is_signed (integer_of t))) h).0

-- ---- values

cells-integer_in : (p : PType) (n : Nullability) (vs : List PlainValue) → list_all (fits (primitive p n)) vs ≡ true → map cell (map integer_in vs) ≡ vs
cells-integer_in p n [] h = refl
cells-integer_in p n (v ∷ vs) h = let b = and_parts (fits (primitive p n) v) (list_all (fits (primitive p n)) vs) h in λ i. cell-integer_in (primitive p n) v refl b.0 i ∷ cells-integer_in p n vs b.1 i

-- what holds of all nulls and integers that fit holds of all values that fit
pub by_cells : (p : PType) (n : Nullability) (P : List PlainValue → Type 0) → ((os : List (Option ℤ)) → list_all (fits (primitive p n)) (map cell os) ≡ true → P (map cell os)) → (vs : List PlainValue) → list_all (fits (primitive p n)) vs ≡ true → P vs
by_cells p n P each vs h =
    let Q : List PlainValue → Type 0 = λ ws. list_all (fits (primitive p n)) ws ≡ true → P ws in
    subst Q (cells-integer_in p n vs h) (each (map integer_in vs)) h

-- each row of fitting values is null or an integer
pub row-integer_in : (p : PType) (n : Nullability) (vs : List PlainValue) (i : ℕ) → list_all (fits (primitive p n)) vs ≡ true → cell (integer_in (slice_index_or vs i null)) ≡ slice_index_or vs i null
row-integer_in p n [] i h = refl
row-integer_in p n (v ∷ vs) zero h = cell-integer_in (primitive p n) v refl (and_parts (fits (primitive p n) v) (list_all (fits (primitive p n)) vs) h).0
row-integer_in p n (v ∷ vs) (suc i) h = row-integer_in p n vs i (and_parts (fits (primitive p n) v) (list_all (fits (primitive p n)) vs) h).1

-- `whole_or_zero` of a value is its integer, 0 where it has none
pub whole-integer_in : (v : PlainValue) → whole_or_zero v ≡ unwrap_or (integer_in v) (pos 0)
whole-integer_in (int z) = refl
whole-integer_in v = refl

-- ---- the integers among values

pub integers-few : (vs : List PlainValue) → length (integers_in vs) ≤ length vs
integers-few [] = omega arith
integers-few (v ∷ vs) = by_option (integer_in v) (integers-few vs)
  where
    by_option : (o : Option ℤ) → length (integers_in vs) ≤ length vs → length (cons_option o (integers_in vs)) ≤ suc (length vs)
    by_option None few = omega arith
    by_option (Some z) few = omega arith

-- the integers among fitting values are in the range of the type
pub integers-lie_in : (p : PType) (n : Nullability) (vs : List PlainValue) → list_all (fits (primitive p n)) vs ≡ true → list_all (lies_in p) (integers_in vs) ≡ true
integers-lie_in p n = by_cells p n (λ ws. list_all (lies_in p) (integers_in ws) ≡ true) of_cells
  where
    of_cells : (os : List (Option ℤ)) → list_all (fits (primitive p n)) (map cell os) ≡ true → list_all (lies_in p) (integers_in (map cell os)) ≡ true
    of_cells [] h = refl
    of_cells (None ∷ os) h = of_cells os (and_parts (fits (primitive p n) null) (list_all (fits (primitive p n)) (map cell os)) h).1
    of_cells (Some z ∷ os) h = let b = and_parts (lies_in p z) (list_all (fits (primitive p n)) (map cell os)) h in and_from _ _ b.0 (of_cells os b.1)

-- fitting values that aren't all null have an integer among them
pub integers-some : (p : PType) (n : Nullability) (vs : List PlainValue) → list_all (fits (primitive p n)) vs ≡ true → list_all is_null vs ≡ false → 1 ≤ length (integers_in vs)
integers-some p n = by_cells p n (λ ws. list_all is_null ws ≡ false → 1 ≤ length (integers_in ws)) (λ os h. of_cells os)
  where
    of_cells : (os : List (Option ℤ)) → list_all is_null (map cell os) ≡ false → 1 ≤ length (integers_in (map cell os))
    of_cells [] e = absurd cc
    of_cells (None ∷ os) e = of_cells os e
    of_cells (Some z ∷ os) e = omega arith
