-- The sequence that is made of a column stands for it.
use Rattle.std.proofs.Common.{◌≡◌, ◌<◌, ◌≤◌, ◌+◌, ◌-◌, ◌∙◌, ℕ, zero, suc, ℤ, pos, Bool, true, false, cond, List, [], ◌∷◌, length, map, get_or, Option, None, Some, refl, sym, ap, subst, arith}
use Rattle.std.specs.Prelude.{nat_le, ◌==◌, ◌&&◌, ◌+ℤ◌, ◌*ℤ◌, option_map}
use Rattle.std.specs.List.{list_all, list_any, range_with_len}
use Rattle.std.specs.Ordering.{int_eq}
use Rattle.std.proofs.lemmas.Bool.{and_from, and_parts, or_right}
use Rattle.std.proofs.lemmas.Bool.Decides.{nat_tests}
use Rattle.std.proofs.lemmas.Int.{ints}
use Rattle.std.proofs.lemmas.List.{length-map, get_or-map, ext_get_or}
use Rattle.vx_base.specs.declared.error.VortexError.TheVariants.{OutOfBounds}
use Rattle.vx_base.specs.declared.ptype.PType.{PType}
use Rattle.vx_base.specs.declared.dtype.Nullability.{Nullability}
use Rattle.vx_base.specs.Answers.{unless}
use Rattle.vx_base.specs.Integers.{lies_in}
use Rattle.vx_base.specs.PlainScalar.{fits}
use Rattle.vx_base.specs.PlainType as types
use Rattle.vx_base.specs.PlainValue.{PlainValue, null, int, is_null, whole_or_zero}
use Rattle.vx_base.proofs.IntegerLemmas.{by_integer}
use Rattle.vx_blocks.specs.Sequence.{sequence_row, first_step, is_sequence, sequence_of}
use Rattle.vx_model.specs.Column.{column}
use Rattle.vx_model.specs.Plain.{valid_bits}
use Rattle.vx_model.specs.Refusals.{sequence_refusal}
use Rattle.vx_model.specs.Rows.{below, valid_rows}
use Rattle.vx_model.specs.Tree.{Tree}
use Rattle.vx_model.proofs.PackedLemmas.{length-below, row_at-below}
use Rattle.vx_model.proofs.PlainLemmas.{rows-plain_of, wholes_lie_in}
use Rattle.vx_model.proofs.SequenceLemmas.{sequence_accepted}
use Rattle.vx_schemes_common.specs.StandsFor.{StandsFor, AllStandFor}
use Rattle.vx_schemes_runs.specs.Sequence.Tree.{sequence_over, sequence_made}

-- ---- what is known of a sequence that was found

-- two rows or more, of a step that the type holds
pub record IsFound (p : PType) (zs : List ℤ) (found : ℤ × ℤ) : Type 0 where
  pub long : 2 ≤ length zs
  pub step : lies_in p found.1 ≡ true
  pub each : (i : ℕ) → i < length zs → get_or zs i (pos 0) ≡ sequence_row found.0 found.1 i

each-below : (q : ℕ → Bool) (a n : ℕ) → list_all q (range_with_len a n) ≡ true → (k : ℕ) → a ≤ k → k < a + n → q k ≡ true
each-below q a zero h k first last = absurd (omega arith)
each-below q a (suc n) h k first last =
    let b = and_parts (q a) (list_all q (range_with_len (a + 1) n)) h in
    by_place (nat_le (a + 1) k) refl b.0 (λ later. each-below q (a + 1) n b.1 k later (omega arith))
  where
    by_place : (t : Bool) → nat_le (a + 1) k ≡ t → q a ≡ true → (a + 1 ≤ k → q k ≡ true) → q k ≡ true
    by_place true e here later = let next : a + 1 ≤ k = grind (arith, nat_tests) in later next
    by_place false e here later = let same : a ≡ k = grind (arith, nat_tests) in subst (λ i. q i ≡ true) same here

equal-is : (x y : ℤ) → int_eq x y ≡ true → x ≡ y
equal-is x y h = grind (arith, ints)

pub found-is : (p : PType) (zs : List ℤ) (found : ℤ × ℤ) → sequence_of p zs ≡ Some found → IsFound p zs found
found-is p zs found e =
    by_tests (nat_le 2 (length zs)) (lies_in p (first_step zs)) (is_sequence (get_or zs 0 (pos 0)) (first_step zs) zs) refl refl refl e
  where
    by_tests : (a b d : Bool) → nat_le 2 (length zs) ≡ a → lies_in p (first_step zs) ≡ b → is_sequence (get_or zs 0 (pos 0)) (first_step zs) zs ≡ d
        → cond (a && (b && d)) (Some (get_or zs 0 (pos 0), first_step zs)) None ≡ Some found → IsFound p zs found
    by_tests true true true q r s is =
        let same : (get_or zs 0 (pos 0), first_step zs) ≡ found = cc in
        let long : 2 ≤ length zs = grind (arith, nat_tests) in
        subst (IsFound p zs) same (record {
          long = long;
          step = r;
          each = λ i h. equal-is (get_or zs i (pos 0)) (sequence_row (get_or zs 0 (pos 0)) (first_step zs) i) (each-below _ 0 (length zs) s i (omega arith) (omega arith));
        })
    by_tests false b d q r s is = absurd cc
    by_tests true false d q r s is = absurd cc
    by_tests true true false q r s is = absurd cc

-- ---- the tree

-- a number of a list of which each passes a test
each_at : (q : ℤ → Bool) (zs : List ℤ) (i : ℕ) → i < length zs → list_all q zs ≡ true → q (get_or zs i (pos 0)) ≡ true
each_at q [] i l h = absurd (omega arith)
each_at q (z ∷ zs) zero l h = (and_parts (q z) (list_all q zs) h).0
each_at q (z ∷ zs) (suc i) l h = each_at q zs i (omega arith) (and_parts (q z) (list_all q zs) h).1

module _ (p : PType) (zs : List ℤ) (found : ℤ × ℤ) (is : IsFound p zs found) (held : list_all (lies_in p) zs ≡ true) where
  row-held : (i : ℕ) → i < length zs → lies_in p (sequence_row found.0 found.1 i) ≡ true
  row-held i h = subst (λ z. lies_in p z ≡ true) (is.each i h) (each_at (lies_in p) zs i h held)

  first-is : sequence_row found.0 found.1 0 ≡ found.0
  first-is = omega (arith, ints)

  pub found-admitted : sequence_refusal p found.0 found.1 (length zs) ≡ None
  found-admitted =
      let first = subst (λ z. lies_in p z ≡ true) first-is (row-held 0 (omega (arith, is.long))) in
      let last = row-held (length zs - 1) (omega (arith, is.long)) in
      ap (λ b. unless b OutOfBounds None) (and_from _ _ is.step (or_right (length zs == 0) _ (and_from _ _ first last)))

  found-rows : below (λ i. int (found.0 +ℤ pos i *ℤ found.1)) (length zs) ≡ map int zs
  found-rows =
      let f : ℕ → PlainValue = λ i. int (found.0 +ℤ pos i *ℤ found.1) in
      let long = length-below f (length zs) in
      ext_get_or null (below f (length zs)) (map int zs) (long ∙ sym (length-map zs int))
      (λ i h. let within : i < length zs = omega (arith, long) in row_at-below f (length zs) i within ∙ ap int (sym (is.each i within)) ∙ sym (get_or-map int zs i (pos 0) null within))

-- ---- the column

module _ (p : PType) (n : Nullability) (vs : List PlainValue) (h : list_all (fits (types.primitive p n)) vs ≡ true) where
  abbrev zs : List ℤ
  zs = map whole_or_zero vs

  integers-back : list_any is_null vs ≡ false → map int zs ≡ vs
  integers-back e = sym (ap (λ b. valid_rows (cond b (Some (valid_bits vs)) None) (map int zs)) e) ∙ rows-plain_of (types.primitive p n) vs h

  found-stands : (found : ℤ × ℤ) → list_any is_null vs ≡ false → sequence_of p zs ≡ Some found → StandsFor (sequence_over (column (types.primitive p n) vs) found) (column (types.primitive p n) vs)
  found-stands found e is =
      let of_rows = found-is p zs found is in
      let held = wholes_lie_in p n vs h in
      let long = length-map vs whole_or_zero in
      let admitted = subst (λ k. sequence_refusal p found.0 found.1 k ≡ None) long (found-admitted p zs found of_rows held) in
      let back = sym (ap (below (λ i. int (found.0 +ℤ pos i *ℤ found.1))) long) ∙ found-rows p zs found of_rows held ∙ integers-back e in
      (sequence_accepted p n found.0 found.1 (length vs) admitted, λ i. column (types.primitive p n) (back i))

  made-stands : (t : Tree) → sequence_made (column (types.primitive p n) vs) ≡ Some t → StandsFor t (column (types.primitive p n) vs)
  made-stands t e = by_null (list_any is_null vs) refl e
    where
      by_found : (o : Option (ℤ × ℤ)) → list_any is_null vs ≡ false → sequence_of p zs ≡ o → option_map (sequence_over (column (types.primitive p n) vs)) o ≡ Some t → StandsFor t (column (types.primitive p n) vs)
      by_found None none f q = absurd cc
      by_found (Some found) none f q =
          let same : sequence_over (column (types.primitive p n) vs) found ≡ t = cc in
          subst (λ u. StandsFor u (column (types.primitive p n) vs)) same (found-stands found none f)

      by_null : (b : Bool) → list_any is_null vs ≡ b → option_map (sequence_over (column (types.primitive p n) vs)) (cond b None (sequence_of p zs)) ≡ Some t → StandsFor t (column (types.primitive p n) vs)
      by_null true none q = absurd cc
      by_null false none q = by_found (sequence_of p zs) none refl q

pub sequence-lawful : AllStandFor types.is_integer sequence_made
sequence-lawful c t i h few e =
    by_integer (λ s. list_all (fits s) c.values ≡ true → sequence_made (column s c.values) ≡ Some t → StandsFor t (column s c.values)) (λ p n k q. made-stands p n c.values k t q) c.dtype i h e
