-- The rows of a range of an arithmetic sequence, which are a sequence from the range's first row on.
use Rattle.std.proofs.Common.{◌≡◌, ◌≤◌, ◌<◌, ◌-◌, ◌+◌, ◌*◌, ◌+ℤ◌, ◌*ℤ◌, ℕ, suc, ℤ, pos, negsuc, Bool, true, false, length, take, drop, Option, Some, None, refl, sym, ap, subst, arith, ◌∙◌}
use Rattle.std.specs.Prelude.{nat_le, ◌||◌, ◌==◌, Result, Ok, Err}
use Rattle.std.proofs.lemmas.Bool.{and_from, and_parts, leb-true}
use Rattle.std.proofs.lemmas.List.{ext_get_or, get_or-drop, get_or-take, length-drop, length-take}
use Rattle.std.proofs.lemmas.Int.{ints}
use Rattle.std.proofs.Math.Nat.{add-mul}
use Rattle.vx_base.specs.declared.dtype.Nullability.{Nullability}
use Rattle.vx_base.specs.declared.ptype.PType.{PType}
use Rattle.vx_base.specs.declared.error.VortexError.{VortexError}
use Rattle.vx_base.specs.Answers.{OrMemory, SurelyDecided}
use Rattle.vx_base.specs.Integers.{lies_in}
use Rattle.vx_base.specs.Masks.{is_part, rows_between}
use Rattle.vx_base.specs.PlainType as types
use Rattle.vx_base.specs.PlainValue.{null, int}
use Rattle.vx_model.specs.Column.{Column, column, column_of}
use Rattle.vx_model.specs.Refusals.{sequence_refusal}
use Rattle.vx_model.specs.Rows.{rows, row_at}
use Rattle.vx_model.specs.Tree.{Tree, sequence}
use Rattle.vx_model.specs.WellFormed.{WellFormed}
use Rattle.vx_model.proofs.SequenceLemmas.{length-sequence, row-held, row_at-sequence}
use Rattle.vx_rules.specs.Selections.{sliced}
use Rattle.vx_selections.proofs.Leaves.{Stands}
use Rattle.vx_selections.proofs.Validities.{pass}

or_held : (a b : Bool) → b ≡ true → (a || b) ≡ true
or_held true b e = refl
or_held false b e = e

moved : (first step : ℤ) (start i : ℕ) → (first +ℤ pos start *ℤ step) +ℤ pos i *ℤ step ≡ first +ℤ pos (start + i) *ℤ step
moved first (pos s) start i = let more : (start + i) * s ≡ start * s + i * s = add-mul start i s in omega (arith, ints, more)
moved first (negsuc s) start i = let more : (start + i) * suc s ≡ start * suc s + i * suc s = add-mul start i (suc s) in omega (arith, ints, more)

module _ (p : PType) (n : Nullability) (first step : ℤ) (len : ℕ) (w : WellFormed (sequence p n first step len)) where
  abbrev tree : Tree
  tree = sequence p n first step len

  module _ (start end : ℕ) (part : is_part len start end ≡ true) (some : start < end) where
    abbrev from : ℤ
    from = first +ℤ pos start *ℤ step

    last : end ≤ len
    last = leb-true end len (and_parts (nat_le start end) (nat_le end len) part).1

    end_row : from +ℤ pos (end - start - 1) *ℤ step ≡ first +ℤ pos (end - 1) *ℤ step
    end_row = let same : start + (end - start - 1) ≡ end - 1 = omega (arith, some) in moved first step start (end - start - 1) ∙ ap (λ k. first +ℤ pos k *ℤ step) same

    admitted : sequence_refusal p from step (end - start) ≡ None
    admitted =
        let a = row-held p first step len start w.0 (omega (arith, some, last)) in
        let b = ap (lies_in p) end_row ∙ row-held p first step len (end - 1) w.0 (omega (arith, some, last)) in
        pass _ _ _ (and_from _ _ w.0.step_held (or_held (end - start == 0) _ (and_from _ _ a b))) refl

    count : length (rows_between (rows tree) start end) ≡ end - start
    count =
        let a = length-take (end - start) (drop start (rows tree)) in
        let b = length-drop start (rows tree) in
        let c = length-sequence p n first step len in
        omega (arith, a, b, c, last)

    at : (k : ℕ) → k < end - start → row_at (rows_between (rows tree) start end) k ≡ row_at (rows (sequence p n from step (end - start))) k
    at k l =
        get_or-take (end - start) (drop start (rows tree)) k null l ∙ get_or-drop start (rows tree) k null
        ∙ row_at-sequence p n first step len (start + k) (omega (arith, l, last)) ∙ ap int (sym (moved first step start k)) ∙ sym (row_at-sequence p n from step (end - start) k l)

    same_rows : rows_between (rows tree) start end ≡ rows (sequence p n from step (end - start))
    same_rows = ext_get_or null _ _ (count ∙ sym (length-sequence p n from step (end - start))) (λ k l. at k (subst (λ m. k < m) count l))

    pub sequence_sliced : (z : ℤ) → int z ≡ int from → Stands (sliced (column_of tree) start end) (sequence_refusal p z step (end - start)) (sequence p n z step (end - start))
    sequence_sliced z e =
        let is : z ≡ from = cc in
        record {
          accepted = ap (λ f. sequence_refusal p f step (end - start)) is ∙ admitted;
          column = ap (λ f. column_of (sequence p n f step (end - start))) is ∙ ap (column (types.primitive p n)) (sym same_rows);
        }

  -- no row is a sequence of no rows
  pub none_sliced : (start end : ℕ) → start ≡ end → Stands (sliced (column_of tree) start end) (sequence_refusal p first step 0) (sequence p n first step 0)
  none_sliced start end e =
      let none : 0 ≡ end - start = omega (arith, e) in
      record {
        accepted = pass _ _ _ (and_from _ _ w.0.step_held refl) refl;
        column = ap (λ k. column (types.primitive p n) (take k (drop start (rows tree)))) none;
      }

-- a range that isn't empty begins with a row
pub some_rows : (len start end : ℕ) → is_part len start end ≡ true → (start ≡ end → ⊥) → start < end
some_rows len start end h e =
    let first = leb-true start end (and_parts (nat_le start end) (nat_le end len) h).0 in
    omega (arith, first, e)

pub first_row : (len start end : ℕ) → is_part len start end ≡ true → (start ≡ end → ⊥) → start < len
first_row len start end h e =
    let some = some_rows len start end h e in
    let last = leb-true end len (and_parts (nat_le start end) (nat_le end len) h).1 in
    omega (arith, some, last)

-- a constructor's tree, where nothing is refused
pub surely_made : (o : Option VortexError) (r : Result Tree VortexError) (t : Tree) (c : Column) → Stands c o t → SurelyDecided o (λ made. made ≡ t) r → OrMemory r (λ out. column_of out ≡ c)
surely_made None (Ok made) t c h is = ap column_of is ∙ h.column
surely_made None (Err e) t c h is = absurd is
surely_made (Some x) r t c h is = absurd (some_none h.accepted)
  where
    some_none : Some x ≡ None → ⊥
    some_none e = cc
