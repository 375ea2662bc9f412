-- Truth values that are found by the parts of each row, null where the day is: what they are of the timestamps.
use Rattle.std.proofs.Common.{◌≡◌, ◌∙◌, ℕ, zero, suc, ℤ, pos, true, false, cond, List, [], ◌∷◌, length, map, refl, sym, ap, arith, Bool, Some, None}
use Rattle.std.specs.Prelude.{not, slice_index_or}
use Rattle.std.specs.List.{list_any}
use Rattle.std.proofs.lemmas.Bool.{and_parts, cond_both}
use Rattle.std.proofs.lemmas.List.{length-map}
use Rattle.vx_base.specs.PlainValue.{PlainValue, null, truth, int, is_null, whole_or_zero}
use Rattle.vx_model.specs.Plain.{validity, valid_bits}
use Rattle.vx_model.specs.Rows.{row_at, below, combined_at, masked_rows, valid_rows}
use Rattle.vx_model.specs.WellFormed.{are_canonical}
use Rattle.vx_time.specs.CanonicalParts.{is_canonical}
use Rattle.vx_time.specs.declared.parts.TimestampParts.{TimestampParts}
use Rattle.vx_time.specs.PartsOf.{parts, sum_of}
use Rattle.vx_datetime.proofs.ChosenParts.{all_pass, canonical, combined, same-test}
use Rattle.vx_datetime.proofs.EachPart.{each3, numbered}

-- ---- items by their number

-- a whole number of the list is that of its row, also out of bounds
pub whole-at : (vs : List PlainValue) (i : ℕ) → slice_index_or (map whole_or_zero vs) i (pos 0) ≡ whole_or_zero (row_at vs i)
whole-at [] i = refl
whole-at (v ∷ vs) zero = refl
whole-at (v ∷ vs) (suc i) = whole-at vs i

pub length-each3 : {A : Type 0} (f : PlainValue → PlainValue → PlainValue → A) (ds ss us : List PlainValue) → length ss ≡ length ds → length us ≡ length ds → length (each3 f ds ss us) ≡ length ds
length-each3 f [] ss us l m = refl
length-each3 f (d ∷ ds) [] us l m = absurd (omega (arith, l))
length-each3 f (d ∷ ds) (s ∷ ss) [] l m = absurd (omega (arith, m))
length-each3 f (d ∷ ds) (s ∷ ss) (u ∷ us) l m = ap suc (length-each3 f ds ss us (omega (arith, l)) (omega (arith, m)))

-- ---- validity by the nulls of other rows

none_masked : (ds xs : List PlainValue) → length xs ≡ length ds → list_any is_null ds ≡ false → xs ≡ masked_rows (valid_bits ds) xs
none_masked [] [] l e = refl
none_masked [] (x ∷ xs) l e = absurd (omega (arith, l))
none_masked (d ∷ ds) [] l e = absurd (omega (arith, l))
none_masked (null ∷ ds) (x ∷ xs) l e = absurd cc
none_masked (d ∷ ds) (x ∷ xs) l e = ap (λ ys. x ∷ ys) (none_masked ds xs (omega (arith, l)) e)

pub valid-masked : (ds xs : List PlainValue) → length xs ≡ length ds → valid_rows (validity ds) xs ≡ masked_rows (valid_bits ds) xs
valid-masked ds xs l =
    cond_both (list_any is_null ds) (Some (valid_bits ds)) None (λ valid. valid_rows valid xs ≡ masked_rows (valid_bits ds) xs) (λ some. refl) (λ none. none_masked ds xs l none)

-- ---- truth values by the parts of each row

module _ (d : ℤ) (found : TimestampParts → Bool) (g : PlainValue → PlainValue) (of_null : g null ≡ null) (of_parts : (p : TimestampParts) → is_canonical d p ≡ true → truth (found p) ≡ g (int (sum_of d p))) where
  abbrev answer_of : PlainValue → PlainValue → PlainValue → Bool
  answer_of day second subsecond = found (parts (whole_or_zero day) (whole_or_zero second) (whole_or_zero subsecond))

  row-answered : (v s u : PlainValue) → canonical d v s u ≡ true → cond (not (is_null v)) (truth (answer_of v s u)) null ≡ g (combined d v s u)
  row-answered null s u e = sym of_null
  row-answered v s u e = of_parts (parts (whole_or_zero v) (whole_or_zero s) (whole_or_zero u)) e

  each-answered : (ds ss us : List PlainValue) → length ss ≡ length ds → length us ≡ length ds → all_pass d ds ss us ≡ true
      → masked_rows (valid_bits ds) (map truth (each3 answer_of ds ss us)) ≡ map g (each3 (combined d) ds ss us)
  each-answered [] ss us l m h = refl
  each-answered (v ∷ ds) [] us l m h = absurd (omega (arith, l))
  each-answered (v ∷ ds) (s ∷ ss) [] l m h = absurd (omega (arith, m))
  each-answered (v ∷ ds) (s ∷ ss) (u ∷ us) l m h =
      let a = and_parts (canonical d v s u) (all_pass d ds ss us) h in
      λ i. row-answered v s u a.0 i ∷ each-answered ds ss us (omega (arith, l)) (omega (arith, m)) a.1 i

  -- found by number, null where the day is
  pub rows-answered : (ds ss us : List PlainValue) → length ss ≡ length ds → length us ≡ length ds → are_canonical d ds ss us ≡ true
      → valid_rows (validity ds) (map truth (below (λ i. found (parts (slice_index_or (map whole_or_zero ds) i (pos 0)) (slice_index_or (map whole_or_zero ss) i (pos 0)) (slice_index_or (map whole_or_zero us) i (pos 0)))) (length ds)))
      ≡ map g (below (combined_at d ds ss us) (length ds))
  rows-answered ds ss us l m h =
      let pass : all_pass d ds ss us ≡ true = sym (same-test d ds ss us l m) ∙ h in
      let bits = ap (λ f. below f (length ds)) (λ j i. found (parts (whole-at ds i j) (whole-at ss i j) (whole-at us i j))) ∙ numbered answer_of ds ss us l m in
      let long : length (map truth (each3 answer_of ds ss us)) ≡ length ds = length-map (each3 answer_of ds ss us) truth ∙ length-each3 answer_of ds ss us l m in
      ap (λ bs. valid_rows (validity ds) (map truth bs)) bits
      ∙ valid-masked ds (map truth (each3 answer_of ds ss us)) long
      ∙ each-answered ds ss us l m pass
      ∙ ap (map g) (sym (numbered (combined d) ds ss us l m))
