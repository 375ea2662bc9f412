-- The columns of parts: their plain trees from the parts of stored rows, their rows, and that they are accepted and join to the
-- timestamps.
use Rattle.std.proofs.Common.{◌≡◌, ◌∙◌, ◌/◌, ◌%◌, ℕ, ℤ, pos, negsuc, ◌<ℤ◌, ◌≤ℤ◌, Bool, true, false, List, [], ◌∷◌, length, map, refl, sym, ap, arith, Some, None, if◌then◌else◌}
use Rattle.std.specs.Prelude.{◌&&◌, ◌||◌, int_lt, IsTrue}
use Rattle.std.specs.List.{list_all, list_any}
use Rattle.std.proofs.lemmas.Bool.{and_parts, and_from}
use Rattle.std.proofs.lemmas.Int.{ints}
use native.Mathlib.Nat.{zero-div, zero-mod}
use Rattle.vx_base.specs.declared.dtype.Nullability.{Nullability}
use Rattle.vx_base.specs.declared.dtype.Nullability.TheVariants.{NonNullable}
use Rattle.vx_base.specs.declared.ptype.PType.TheVariants.{I32, I64}
use Rattle.vx_base.specs.declared.timestamp.TimeUnit.{TimeUnit}
use Rattle.vx_base.specs.declared.timestamp.TimeUnit.TheVariants.{Nanoseconds, Microseconds, Milliseconds, Seconds, Days}
use Rattle.vx_base.specs.Integers.{lies_in}
use Rattle.vx_base.specs.PlainScalar.{fits, scalar}
use Rattle.vx_base.specs.PlainType.{allows_null, stored_type}
use Rattle.vx_base.specs.PlainType as types
use Rattle.vx_base.specs.PlainValue.{PlainValue, null, int, is_null, whole_or_zero}
use Rattle.vx_base.specs.Timestamps.{PlainTimestamp, divides}
use Rattle.vx_model.specs.Plain.{plain, validity, valid_bits}
use Rattle.vx_model.specs.Rows.{each_int}
use Rattle.vx_model.specs.Tree.{Tree, constant, primitive}
use Rattle.vx_model.proofs.EachIntLemmas.{validity-each_int, wholes-each_int-zero}
use Rattle.vx_time.specs.CanonicalParts.{is_canonical}
use Rattle.vx_time.specs.PartsOf.{parts, parts_of, sum_of, units_per_second}
use Rattle.vx_time.proofs.Rounding.{parts_by_rem}
use Rattle.vx_time.proofs.Splits.{sum_of-split, canonical_of}
use Rattle.vx_temporal.specs.Split.{day_fits, days_of, others_of, or_zero, subseconds_tree}
use Rattle.vx_temporal.specs.SplitRows.{day_in, second_in, subsecond_in, has_day, finer}

-- ---- units

pub unit-positive : (u : TimeUnit) → IsTrue (divides u) → pos 0 <ℤ units_per_second u
unit-positive Nanoseconds h = omega (arith, ints)
unit-positive Microseconds h = omega (arith, ints)
unit-positive Milliseconds h = omega (arith, ints)
unit-positive Seconds h = omega (arith, ints)
unit-positive Days h = absurd cc

pub unit-small : (u : TimeUnit) → units_per_second u ≤ℤ pos 1_000_000_000
unit-small Nanoseconds = omega (arith, ints)
unit-small Microseconds = omega (arith, ints)
unit-small Milliseconds = omega (arith, ints)
unit-small Seconds = omega (arith, ints)
unit-small Days = omega (arith, ints)

-- ---- the parts of 0 are 0

zero-parts : (d : ℤ) → pos 0 <ℤ d → parts_of d (pos 0) ≡ parts (pos 0) (pos 0) (pos 0)
zero-parts (pos k) some = parts_by_rem (pos 0) k ∙ (λ i. parts (pos (zero-div k i / 86_400)) (pos (zero-div k i % 86_400)) (pos (zero-mod k i)))
zero-parts (negsuc k) some = absurd some.lt

module _ (d : ℤ) (some : pos 0 <ℤ d) where
  zero-day : day_in d (pos 0) ≡ pos 0
  zero-day = ap (λ p. p.days) (zero-parts d some)

  zero-second : second_in d (pos 0) ≡ pos 0
  zero-second = ap (λ p. p.seconds) (zero-parts d some)

  zero-subsecond : subsecond_in d (pos 0) ≡ pos 0
  zero-subsecond = ap (λ p. p.subseconds) (zero-parts d some)

  -- the test of stored rows is that of the values, of which null stands above 0
  pub fits-stored : (vs : List PlainValue) → list_all (has_day d) (map whole_or_zero vs) ≡ list_all (day_fits d) vs
  fits-stored [] = refl
  fits-stored (null ∷ vs) = let here = ap (lies_in I32) zero-day in λ i. here i && fits-stored vs i
  fits-stored (v ∷ vs) = ap (λ b. has_day d (whole_or_zero v) && b) (fits-stored vs)

-- ---- parts other than the days

module _ (f : ℤ → ℤ) (keeps : f (pos 0) ≡ pos 0) where
  no_null-others : (vs : List PlainValue) → list_any is_null (map (or_zero f) vs) ≡ false
  no_null-others [] = refl
  no_null-others (null ∷ vs) = no_null-others vs
  no_null-others (v ∷ vs) = no_null-others vs

  wholes-others : (vs : List PlainValue) → map whole_or_zero (map (or_zero f) vs) ≡ map f (map whole_or_zero vs)
  wholes-others [] = refl
  wholes-others (null ∷ vs) = let start = sym keeps in λ i. start i ∷ wholes-others vs i
  wholes-others (v ∷ vs) = ap (λ xs. f (whole_or_zero v) ∷ xs) (wholes-others vs)

  pub others-stored : (vs : List PlainValue) (xs : List ℤ) → xs ≡ map f (map whole_or_zero vs) → primitive I32 xs None NonNullable ≡ plain (others_of f vs)
  others-stored vs xs is =
      let wholes = is ∙ sym (wholes-others vs) in
      let none : None ≡ validity (map (or_zero f) vs) = ap (λ b. if b then Some (valid_bits (map (or_zero f) vs)) else None) (sym (no_null-others vs)) in
      λ i. primitive I32 (wholes i) (none i) NonNullable

-- ---- the plain trees, from what the kernel writes

module _ (d : ℤ) (some : pos 0 <ℤ d) (vs : List PlainValue) (xs : List ℤ) where
  pub days-stored : (n : Nullability) → xs ≡ map (day_in d) (map whole_or_zero vs) → primitive I32 xs (validity vs) n ≡ plain (days_of d n vs)
  days-stored n is =
      let wholes = is ∙ sym (wholes-each_int-zero (day_in d) (zero-day d some) vs) in
      let bits = sym (validity-each_int (day_in d) vs) in
      λ i. primitive I32 (wholes i) (bits i) n

  pub seconds-stored : xs ≡ map (second_in d) (map whole_or_zero vs) → primitive I32 xs None NonNullable ≡ plain (others_of (second_in d) vs)
  seconds-stored is = others-stored (second_in d) (zero-second d some) vs xs is

  pub subseconds-stored : (len : ℕ) → len ≡ length vs → xs ≡ finer d (map (subsecond_in d) (map whole_or_zero vs))
      → (if int_lt (pos 1) d then primitive I32 xs None NonNullable else constant (scalar (types.primitive I32 NonNullable) (int (pos 0))) len) ≡ subseconds_tree d vs
  subseconds-stored len long is = by_test (int_lt (pos 1) d) is
    where
      zero : Tree
      zero = constant (scalar (types.primitive I32 NonNullable) (int (pos 0))) (length vs)

      by_test : (b : Bool) → xs ≡ (if b then map (subsecond_in d) (map whole_or_zero vs) else [])
          → (if b then primitive I32 xs None NonNullable else constant (scalar (types.primitive I32 NonNullable) (int (pos 0))) len) ≡ (if b then plain (others_of (subsecond_in d) vs) else constant (scalar (types.primitive I32 NonNullable) (int (pos 0))) (length vs))
      by_test true e = others-stored (subsecond_in d) (zero-subsecond d some) vs xs e
      by_test false e = ap (constant (scalar (types.primitive I32 NonNullable) (int (pos 0)))) long

-- ---- the rows of parts, and the timestamps that they join to

module _ (k : PlainTimestamp) (n : Nullability) (some : pos 0 <ℤ units_per_second k.unit) where
  abbrev d : ℤ
  d = units_per_second k.unit

  -- values of the timestamp type whose days fit
  pub days-fit : (vs : List PlainValue) → list_all (fits (types.timestamp k n)) vs ≡ true → list_all (day_fits (units_per_second k.unit)) vs ≡ true → list_all (fits (types.primitive I32 n)) (map (each_int (day_in (units_per_second k.unit))) vs) ≡ true
  days-fit [] h e = refl
  days-fit (null ∷ vs) h e =
      let b = and_parts (allows_null n) (list_all (fits (types.timestamp k n)) vs) h in
      and_from _ _ b.0 (days-fit vs b.1 (and_parts true (list_all (day_fits d) vs) e).1)
  days-fit (int z ∷ vs) h e =
      let b = and_parts (lies_in I64 z) (list_all (fits (types.timestamp k n)) vs) h in
      let own = and_parts (has_day d z) (list_all (day_fits d) vs) e in
      and_from _ _ own.0 (days-fit vs b.1 own.1)
  days-fit (v ∷ vs) h e = absurd cc

  pub others-fit : (f : ℤ → ℤ) → ((z : ℤ) → lies_in I32 (f z) ≡ true) → (vs : List PlainValue) → list_all (fits (types.primitive I32 NonNullable)) (map (or_zero f) vs) ≡ true
  others-fit f held [] = refl
  others-fit f held (null ∷ vs) = others-fit f held vs
  others-fit f held (v ∷ vs) = and_from _ _ (held (whole_or_zero v)) (others-fit f held vs)

  -- each value is the sum of its parts
  pub row-joined : (v : PlainValue) → fits (types.timestamp k n) v ≡ true
      → each_int (λ day. sum_of (units_per_second k.unit) (parts day (whole_or_zero (or_zero (second_in (units_per_second k.unit)) v)) (whole_or_zero (or_zero (subsecond_in (units_per_second k.unit)) v)))) (each_int (day_in (units_per_second k.unit)) v) ≡ v
  row-joined null h = refl
  row-joined (int z) h = ap int (sum_of-split d z some)
  row-joined v h = absurd cc

  pub row-canonical : (v : PlainValue) → fits (types.timestamp k n) v ≡ true
      → (is_null (each_int (day_in (units_per_second k.unit)) v) || is_canonical (units_per_second k.unit) (parts (whole_or_zero (each_int (day_in (units_per_second k.unit)) v)) (whole_or_zero (or_zero (second_in (units_per_second k.unit)) v)) (whole_or_zero (or_zero (subsecond_in (units_per_second k.unit)) v)))) ≡ true
  row-canonical null h = refl
  row-canonical (int z) h = canonical_of d z some h
  row-canonical v h = absurd cc
