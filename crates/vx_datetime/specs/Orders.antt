-- The orders of rows: by one part after the other, each of which orders the rows that are equal so far.
use Rattle.std.specs.Prelude.{◌≡◌, ◌<◌, ◌≤◌, ℕ, ℤ, pos, Bool, List, length, slice_index_or}
use Rattle.std.specs.declared.cmp.Ordering.{Ordering}
use Rattle.std.specs.declared.cmp.Ordering.TheVariants.{Less, Equal, Greater}
use Rattle.std.specs.Ordering.{int_cmp, ordering_then}
use Rattle.vx_datetime.specs.declared.kernels.verdicts.Verdicts.{Verdicts}

-- row i of integers, 0 out of bounds
abbrev pub whole_in : List ℤ → ℕ → ℤ
whole_in xs i = slice_index_or xs i (pos 0)

-- row i of orders, Equal out of bounds
abbrev pub order_in : List Ordering → ℕ → Ordering
order_in orders i = slice_index_or orders i Equal

-- the order of row i so far, and where that is Equal the order of its integer and of another one
abbrev pub refined_at : List Ordering → List ℤ → (ℕ → ℤ) → ℕ → Ordering
refined_at orders xs other i = ordering_then (order_in orders i) (int_cmp (whole_in xs i) (other i))

-- from the orders `old` to `now` the rows from `start` to `end - 1` got those that f gives, and the others kept theirs
pub record AreOrdered (f : ℕ → Ordering) (old now : List Ordering) (start end : ℕ) : Type 0 where
  pub long : length now ≡ length old
  pub within : (i : ℕ) → start ≤ i → i < end → order_in now i ≡ f i
  pub before : (i : ℕ) → i < start → order_in now i ≡ order_in old i
  pub after : (i : ℕ) → end ≤ i → order_in now i ≡ order_in old i

-- what is answered of an order
abbrev pub verdict : Verdicts → Ordering → Bool
verdict v Less = v.less
verdict v Equal = v.equal
verdict v Greater = v.greater
