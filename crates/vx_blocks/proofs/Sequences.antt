-- Sequences, row by row.
use Rattle.std.proofs.Common.{◌≡◌, ◌≢◌, ℕ, zero, suc, ◌+◌, ◌-◌, ◌*◌, ◌^◌, ◌<◌, ◌≤◌, ℤ, pos, negsuc, ◌+ℤ◌, ◌-ℤ◌, ◌*ℤ◌, ◌≤ℤ◌, Bool, true, false, List, length, map, get_or, to_z, of_z, FitsSigned, refl, sym, ap, ◌∙◌, arith}
use Rattle.std.specs.Prelude.{nat_le, nat_lt, ◌&&◌, Some, None}
use Rattle.std.specs.Int.{w128}
use Rattle.std.specs.List.{list_all, range_with_len}
use Rattle.std.specs.Ordering.{int_eq}
use Rattle.std.proofs.lemmas.Bool.{and_from, and_parts, cond-true, cond-false, lt-ltb, ltb-true}
use Rattle.std.proofs.lemmas.Bool.Decides.{nat_tests}
use Rattle.std.proofs.lemmas.Int.{ints, to_z-of_z}
use Rattle.std.proofs.Math.Nat.{mul-le-mul_right}
use Rattle.std.proofs.lemmas.List.{get_or-map}
use Rattle.std.proofs.lemmas.List.Folds.{list_all_at}
use Rattle.std.proofs.lemmas.List.FromFn.{length-range_with_len, get_or-range_with_len}
use Rattle.vx_base.specs.declared.ptype.PType.{PType}
use Rattle.vx_base.specs.Integers.{is_signed, natural_bits, lies_in}
use Rattle.vx_base.specs.Wrapping.{wrap}
use Rattle.vx_base.proofs.WrapLemmas.{wrap-same}
use Rattle.vx_blocks.specs.Sequence.{sequence_row, is_sequence, first_step, sequence_of, IsWrappedStep}
use Rattle.vx_blocks.proofs.WrapsAgain.{wrap-sum_left}

-- an item's whole number among those of all items
pub whole-at : {X : Type 0} (g : X → ℤ) (xs : List X) (i : ℕ) (x : X) → i < length xs → x ≡ get_or xs i x → g x ≡ get_or (map g xs) i (pos 0)
whole-at g xs i x h at = ap g at ∙ sym (get_or-map g xs i x (pos 0) h)

-- ---- from one row to the next

times-next : (i : ℕ) (step : ℤ) → pos (i + 1) *ℤ step ≡ pos i *ℤ step +ℤ step
times-next i (pos n) = omega (arith, ints)
times-next i (negsuc n) = omega (arith, ints)

-- the rows of a slice whose items are whole numbers by g
module _ {X : Type 0} (g : X → ℤ) (xs : List X) where
  pub step-told : (a b : X) (step : ℤ) → 1 < length xs → a ≡ get_or xs 0 a → b ≡ get_or xs 1 b → FitsSigned w128 step → step ≡ g b -ℤ g a → to_z w128 (of_z w128 step) ≡ first_step (map g xs)
  step-told a b step long first second fits is =
      let p = whole-at g xs 0 a (omega arith) first in
      let q = whole-at g xs 1 b long second in
      to_z-of_z w128 step fits ∙ is ∙ (λ i. q i -ℤ p i)

  -- a test of two items is one of their rows
  module _ (kind : PType) (step : ℤ) (i : ℕ) (a b : X) (some : 0 < i) (within : i < length xs) (before : a ≡ get_or xs (i - 1) a) (at : b ≡ get_or xs i b) where
    pub wrapped-told : g b ≡ wrap kind (g a +ℤ step) → IsWrappedStep kind (map g xs) step i
    wrapped-told e = let p = whole-at g xs (i - 1) a (omega arith) before in let q = whole-at g xs i b within at in sym q ∙ e ∙ (λ k. wrap kind (p k +ℤ step))

    pub wrapped-told-back : IsWrappedStep kind (map g xs) step i → g b ≡ wrap kind (g a +ℤ step)
    wrapped-told-back e = let p = whole-at g xs (i - 1) a (omega arith) before in let q = whole-at g xs i b within at in q ∙ e ∙ sym (λ k. wrap kind (p k +ℤ step))

-- ---- a number between two values of a type is in its range

held_between : (p : PType) (a z b : ℤ) → lies_in p a ≡ true → lies_in p b ≡ true → a ≤ℤ z → z ≤ℤ b → lies_in p z ≡ true
held_between p a (pos n) (pos m) h k l r = lt-ltb n (2 ^ natural_bits p) (let most = ltb-true m (2 ^ natural_bits p) k in omega (arith, ints))
held_between p a (pos n) (negsuc m) h k l r = absurd (omega (arith, ints))
held_between p (negsuc m) (negsuc n) b h k l r =
    let c = and_parts (is_signed p) (nat_lt m (2 ^ natural_bits p)) h in
    and_from _ _ c.0 (lt-ltb n (2 ^ natural_bits p) (let most = ltb-true m (2 ^ natural_bits p) c.1 in omega (arith, ints)))
held_between p (pos m) (negsuc n) b h k l r = absurd (omega (arith, ints))

-- each row of a sequence lies between the first and the last
pub row-held : (p : PType) (first step : ℤ) (i last : ℕ) → i ≤ last → lies_in p first ≡ true → lies_in p (sequence_row first step last) ≡ true → lies_in p (sequence_row first step i) ≡ true
row-held p first (pos s) i last l h k = let up = mul-le-mul_right s l in held_between p first (first +ℤ pos (i * s)) (first +ℤ pos (last * s)) h k (omega (arith, ints)) (omega (arith, ints))
row-held p first (negsuc s) i last l h k =
    let down = mul-le-mul_right (suc s) l in
    held_between p (first +ℤ pos last *ℤ negsuc s) (first +ℤ pos i *ℤ negsuc s) first k h (omega (arith, ints)) (omega (arith, ints))

pub row-first : (first step : ℤ) → first ≡ sequence_row first step 0
row-first first (pos s) = omega (arith, ints)
row-first first (negsuc s) = omega (arith, ints)

pub row-step : (first step : ℤ) (i : ℕ) → sequence_row first step (i + 1) ≡ sequence_row first step i +ℤ step
row-step first step i = let more = times-next i step in omega (arith, ints, more)

-- ---- what the rows are

all-range : (p : ℕ → Bool) (a n : ℕ) → ((k : ℕ) → a ≤ k → k < a + n → p k ≡ true) → list_all p (range_with_len a n) ≡ true
all-range p a zero h = refl
all-range p a (suc n) h = and_from _ _ (h a (omega arith) (omega arith)) (all-range p (a + 1) n (λ k first last. h k (omega arith) (omega arith)))

eq-true : (x y : ℤ) → x ≡ y → int_eq x y ≡ true
eq-true x y h = grind (arith, ints)

eq-told : (x y : ℤ) → int_eq x y ≡ true → x ≡ y
eq-told x y h = grind (arith, ints)

and-first : (a b : Bool) → a ≡ false → a && b ≡ false
and-first a b h = rw h refl

and-second : (a b : Bool) → b ≡ false → a && b ≡ false
and-second true b h = h
and-second false b h = refl

module _ (kind : PType) (rows : List ℤ) where
  abbrev row : ℕ → ℤ
  row i = get_or rows i (pos 0)

  abbrev seq : ℕ → ℤ
  seq i = sequence_row (row 0) (first_step rows) i

  -- each row is the sequence's
  abbrev AreRows : Type 0
  AreRows = (k : ℕ) → k < length rows → row k ≡ seq k

  abbrev matches : ℕ → Bool
  matches k = int_eq (row k) (seq k)

  pub sequence-unheld : lies_in kind (first_step rows) ≡ false → sequence_of kind rows ≡ None
  sequence-unheld h = cond-false _ _ _ (and-second (nat_le 2 (length rows)) _ (and-first _ _ h))

  sequence-whole : 2 ≤ length rows → lies_in kind (first_step rows) ≡ true → AreRows → sequence_of kind rows ≡ Some (row 0, first_step rows)
  sequence-whole long held each =
      let e : nat_le 2 (length rows) ≡ true = grind (arith, nat_tests) in
      cond-true _ _ _ (and_from _ _ e (and_from _ _ held (all-range matches 0 (length rows) (λ k first last. eq-true _ _ (each k (omega arith))))))

  sequence-rows : is_sequence (row 0) (first_step rows) rows ≡ true → AreRows
  sequence-rows h k within =
      let len : k < length (range_with_len 0 (length rows)) = omega (arith, length-range_with_len 0 (length rows)) in
      let place : get_or (range_with_len 0 (length rows)) k 0 ≡ k = omega (arith, get_or-range_with_len 0 (length rows) k 0 within) in
      by_test (matches k) refl (λ fails. list_all_at matches (range_with_len 0 (length rows)) k 0 len (ap matches place ∙ fails))
    where
      by_test : (b : Bool) → matches k ≡ b → (b ≡ false → is_sequence (row 0) (first_step rows) rows ≡ false) → row k ≡ seq k
      by_test true e broken = eq-told _ _ e
      by_test false e broken = let no = broken refl in absurd cc

  sequence-unless : (AreRows → ⊥) → sequence_of kind rows ≡ None
  sequence-unless other = by_test (is_sequence (row 0) (first_step rows) rows) refl
    where
      by_test : (b : Bool) → is_sequence (row 0) (first_step rows) rows ≡ b → sequence_of kind rows ≡ None
      by_test true e = absurd (other (sequence-rows e))
      by_test false e = cond-false _ _ _ (and-second (nat_le 2 (length rows)) _ (and-second (lies_in kind (first_step rows)) _ e))

  -- ---- by the last row, and by wrapping steps from row to row

  module _ (last : ℕ) (end : last + 1 ≡ length rows) where
    pub sequence-apart : (row last -ℤ row 0 ≢ pos last *ℤ first_step rows) → sequence_of kind rows ≡ None
    sequence-apart other = sequence-unless (λ each. other (let is = each last (omega arith) in omega (arith, ints, is)))

    module _ (first_held : lies_in kind (row 0) ≡ true) (last_held : lies_in kind (row last) ≡ true) where
      step-wrapped : AreRows → (k : ℕ) → 0 < k → k < length rows → IsWrappedStep kind rows (first_step rows) k
      step-wrapped each k some within =
          let back : k - 1 + 1 ≡ k = omega arith in
          let here = each k within in
          let before = each (k - 1) (omega arith) in
          let held : lies_in kind (row k) ≡ true = ap (lies_in kind) here ∙ row-held kind (row 0) (first_step rows) k last (omega arith) first_held (ap (lies_in kind) (sym (each last (omega arith))) ∙ last_held) in
          let next : row k ≡ row (k - 1) +ℤ first_step rows = here ∙ ap seq (sym back) ∙ row-step (row 0) (first_step rows) (k - 1) ∙ ap (λ z. z +ℤ first_step rows) (sym before) in
          sym (wrap-same kind (row k) held) ∙ ap (wrap kind) next

      pub sequence-no_step : (((k : ℕ) → 0 < k → k < length rows → IsWrappedStep kind rows (first_step rows) k) → ⊥) → sequence_of kind rows ≡ None
      sequence-no_step other = sequence-unless (λ each. other (step-wrapped each))

      module _ (each : (k : ℕ) → 0 < k → k < length rows → IsWrappedStep kind rows (first_step rows) k) where
        row-wrapped : (k : ℕ) → k < length rows → row k ≡ wrap kind (seq k)
        row-wrapped zero h = sym (wrap-same kind (row 0) first_held) ∙ ap (wrap kind) (row-first (row 0) (first_step rows))
        row-wrapped (suc k) h =
            let so_far = row-wrapped k (omega arith) in
            let back : suc k - 1 ≡ k = omega arith in
            let next : k + 1 ≡ suc k = omega arith in
            each (suc k) (omega arith) h ∙ ap (λ j. wrap kind (row j +ℤ first_step rows)) back ∙ ap (λ z. wrap kind (z +ℤ first_step rows)) so_far ∙ wrap-sum_left kind (seq k) (first_step rows)
            ∙ ap (wrap kind) (sym (row-step (row 0) (first_step rows) k) ∙ ap seq next)

        pub sequence-steps : 1 ≤ last → lies_in kind (first_step rows) ≡ true → row last -ℤ row 0 ≡ pos last *ℤ first_step rows → sequence_of kind rows ≡ Some (row 0, first_step rows)
        sequence-steps long held apart =
            let is : row last ≡ seq last = omega (arith, ints, apart) in
            let all = λ (k : ℕ) (within : k < length rows). row-wrapped k within ∙ wrap-same kind (seq k) (row-held kind (row 0) (first_step rows) k last (omega arith) first_held (ap (lies_in kind) (sym is) ∙ last_held)) in
            sequence-whole (omega arith) held all
