-- Sequences: their rows, and that a constructor's tree is well formed.
use Rattle.std.proofs.Common.{◌≡◌, ◌<◌, ◌≤◌, ◌+◌, ◌-◌, ◌*◌, ◌^◌, add-one, ℕ, zero, suc, map, refl, ℤ, pos, negsuc, length, arith, Bool, true, false, None}
use Rattle.std.specs.Prelude.{nat_lt, ◌+ℤ◌, ◌*ℤ◌, ◌≤ℤ◌, ◌&&◌, ◌||◌, ◌==◌}
use Rattle.std.specs.List.{list_any, range_with_len}
use Rattle.std.proofs.Math.Nat.{suc-mul, mul-le-mul_right}
use Rattle.std.proofs.lemmas.Bool.{lt-ltb, ltb-true, and_parts, and_from, ne_eqb}
use Rattle.std.proofs.lemmas.Int.{ints}
use Rattle.vx_base.specs.declared.ptype.PType.{PType}
use Rattle.vx_base.specs.declared.dtype.Nullability.{Nullability}
use Rattle.vx_base.specs.Integers.{is_signed, natural_bits, lies_in}
use Rattle.vx_base.specs.PlainScalar.{fits}
use Rattle.vx_base.specs.PlainType as types
use Rattle.vx_base.specs.PlainValue.{int, is_null}
use Rattle.vx_model.specs.Refusals.{sequence_refusal}
use Rattle.vx_model.specs.Rows.{rows, row_at}
use Rattle.vx_model.specs.Tree.{sequence}
use Rattle.vx_model.specs.WellFormed.{WellFormed, IsSequence}
use Rattle.vx_model.proofs.PackedLemmas.{length-below, row_at-below, below-passes, passed}

module _ (p : PType) (n : Nullability) (first step : ℤ) (len : ℕ) where
  pub length-sequence : length (rows (sequence p n first step len)) ≡ len
  length-sequence = length-below (λ i. int (first +ℤ pos i *ℤ step)) len

  pub row_at-sequence : (i : ℕ) → i < len → row_at (rows (sequence p n first step len)) i ≡ int (first +ℤ pos i *ℤ step)
  row_at-sequence i l = row_at-below (λ i. int (first +ℤ pos i *ℤ step)) len i l

  -- none is null
  pub any_null-sequence : list_any is_null (rows (sequence p n first step len)) ≡ false
  any_null-sequence = none 0 len
    where
      none : (start count : ℕ) → list_any is_null (map (λ i. int (first +ℤ pos i *ℤ step)) (range_with_len start count)) ≡ false
      none start zero = refl
      none start (suc count) = none (start + 1) count

pub ruleset sequence_reads = (length-sequence, row_at-sequence)

-- ---- each row is in the range of the type

-- a number between two values of a type is in its range
held_between : (p : PType) (a z b : ℤ) → lies_in p a ≡ true → lies_in p b ≡ true → a ≤ℤ z → z ≤ℤ b → lies_in p z ≡ true
held_between p a (pos n) (pos m) h k l r = lt-ltb n (2 ^ natural_bits p) (let most = ltb-true m (2 ^ natural_bits p) k in omega (arith, ints))
held_between p a (pos n) (negsuc m) h k l r = absurd (omega (arith, ints))
held_between p (negsuc m) (negsuc n) b h k l r =
    let c = and_parts (is_signed p) (nat_lt m (2 ^ natural_bits p)) h in
    and_from _ _ c.0 (lt-ltb n (2 ^ natural_bits p) (let most = ltb-true m (2 ^ natural_bits p) c.1 in omega (arith, ints)))
held_between p (pos m) (negsuc n) b h k l r = absurd (omega (arith, ints))

-- each row lies between the first and the last
between_ends : (p : PType) (first step : ℤ) (i last : ℕ) → i ≤ last → lies_in p first ≡ true → lies_in p (first +ℤ pos last *ℤ step) ≡ true → lies_in p (first +ℤ pos i *ℤ step) ≡ true
between_ends p first (pos s) i last l h k = let up = mul-le-mul_right s l in held_between p first (first +ℤ pos (i * s)) (first +ℤ pos (last * s)) h k (omega (arith, ints)) (omega (arith, ints))
between_ends p first (negsuc s) i last l h k =
    let down = mul-le-mul_right (suc s) l in
    held_between p (first +ℤ pos last *ℤ negsuc s) (first +ℤ pos i *ℤ negsuc s) first k h (omega (arith, ints)) (omega (arith, ints))

-- the first and the last row are in range, if there are rows
ends_held : (b c d : Bool) → b ≡ false → (b || c && d) ≡ true → (c ≡ true) × (d ≡ true)
ends_held true c d e h = absurd cc
ends_held false c d e h = and_parts c d h

pub row-held : (p : PType) (first step : ℤ) (len i : ℕ) → IsSequence p first step len → i < len → lies_in p (first +ℤ pos i *ℤ step) ≡ true
row-held p first step len i h l =
    let ends = ends_held (len == 0) (lies_in p first) (lies_in p (first +ℤ pos (len - 1) *ℤ step)) (ne_eqb len 0 (λ e. omega arith)) h.rows_held in
    between_ends p first step i (len - 1) (omega arith) ends.0 ends.1

-- the next row is a step further
pub row-next : (first step : ℤ) (i : ℕ) → first +ℤ pos (i + 1) *ℤ step ≡ (first +ℤ pos i *ℤ step) +ℤ step
row-next first (pos s) i = let more : (i + 1) * s ≡ i * s + s = rw (add-one i) (suc-mul i s) in omega (arith, ints, more)
row-next first (negsuc s) i = let more : (i + 1) * suc s ≡ i * suc s + suc s = rw (add-one i) (suc-mul i (suc s)) in omega (arith, ints, more)

-- ---- a constructor's tree is well formed, where nothing is refused

pub sequence_accepted : (p : PType) (n : Nullability) (first step : ℤ) (len : ℕ) → sequence_refusal p first step len ≡ None → WellFormed (sequence p n first step len)
sequence_accepted p n first step len h =
    let held = and_parts _ _ (passed _ _ _ h).0 in
    let own : IsSequence p first step len = record { step_held = held.0; rows_held = held.1 } in
    (own, below-passes (fits (types.primitive p n)) (λ i. int (first +ℤ pos i *ℤ step)) len (λ i l. row-held p first step len i own l))
