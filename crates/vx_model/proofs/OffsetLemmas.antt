-- Offsets never decrease, and are in bounds of the items.
use Rattle.std.proofs.Common.{◌≡◌, ◌<◌, ◌≤◌, ◌+◌, ◌-◌, ℕ, zero, suc, pos, List, [], ◌∷◌, length, true, arith, add-one}
use Rattle.std.specs.Prelude.{nat_le, nat_lt, int_le}
use Rattle.std.specs.List.{list_all}
use Rattle.std.proofs.lemmas.Bool.{and_parts, ltb-true, eqb-true}
use Rattle.std.proofs.lemmas.Bool.Decides.{nat_tests}
use Rattle.std.proofs.lemmas.Int.{ints}
use Rattle.vx_base.specs.PlainValue.{PlainValue, int, whole_or_zero}
use Rattle.vx_model.specs.Rows.{offset_at}
use Rattle.vx_model.specs.WellFormed.{lies_between, never_falls, are_offsets}

-- an offset and the next one
pub record IsStep (len from to : ℕ) : Type 0 where
  pub rising : from ≤ to
  pub within : to ≤ len

two_rows : (len : ℕ) (v w : PlainValue) → lies_between 0 (len + 1) v ≡ true → lies_between 0 (len + 1) w ≡ true → int_le (whole_or_zero v) (whole_or_zero w) ≡ true
    → IsStep len (offset_at (v ∷ []) 0) (offset_at (w ∷ []) 0)
two_rows len (int (pos m)) (int (pos n)) h k f =
    let below : n < len + 1 = ltb-true n (len + 1) (and_parts (nat_le 0 n) (nat_lt n (len + 1)) k).1 in
    record { rising = grind (arith, nat_tests, ints); within = omega arith }
two_rows len (int (pos m)) w h k f = absurd cc
two_rows len v w h k f = absurd cc

step : (len : ℕ) (os : List PlainValue) (i : ℕ) → list_all (lies_between 0 (len + 1)) os ≡ true → never_falls os ≡ true → suc i < length os → IsStep len (offset_at os i) (offset_at os (suc i))
step len [] i h f l = absurd (omega arith)
step len (v ∷ []) i h f l = absurd (omega arith)
step len (v ∷ w ∷ os) zero h f l =
    let first = and_parts (lies_between 0 (len + 1) v) (list_all (lies_between 0 (len + 1)) (w ∷ os)) h in
    let second = and_parts (lies_between 0 (len + 1) w) (list_all (lies_between 0 (len + 1)) os) first.1 in
    two_rows len v w first.0 second.0 (and_parts (int_le (whole_or_zero v) (whole_or_zero w)) (never_falls (w ∷ os)) f).0
step len (v ∷ w ∷ os) (suc i) h f l =
    let rest = and_parts (lies_between 0 (len + 1) v) (list_all (lies_between 0 (len + 1)) (w ∷ os)) h in
    let later = and_parts _ (never_falls (w ∷ os)) f in
    step len (w ∷ os) i rest.1 later.1 (omega arith)

-- each is in bounds
pub all_between : (len : ℕ) (os : List PlainValue) → are_offsets len os ≡ true → list_all (lies_between 0 (len + 1)) os ≡ true
all_between len os h =
    let falls = and_parts _ (never_falls os) h in
    let last = and_parts _ _ falls.0 in
    (and_parts (list_all (lies_between 0 (len + 1)) os) _ last.0).0

-- the first is 0, and the last is the number of items
pub ends_of : (len : ℕ) (os : List PlainValue) → are_offsets len os ≡ true → (offset_at os 0 ≡ 0) × (offset_at os (length os - 1) ≡ len)
ends_of len os h =
    let falls = and_parts _ (never_falls os) h in
    let last = and_parts _ _ falls.0 in
    (eqb-true _ _ (and_parts (list_all (lies_between 0 (len + 1)) os) _ last.0).1, eqb-true _ _ last.1)

pub offset_step : (len : ℕ) (os : List PlainValue) (i : ℕ) → are_offsets len os ≡ true → i + 1 < length os → IsStep len (offset_at os i) (offset_at os (i + 1))
offset_step len os i h l =
    let falls = and_parts _ (never_falls os) h in
    rw add-one (step len os i (all_between len os h) falls.1 (omega arith))
