-- Truth values that are found by the parts of two arrays, row by row; null where either day is.
use Rattle.std.proofs.Common.{◌≡◌, ◌∙◌, ℕ, ℤ, pos, true, cond, List, [], ◌∷◌, length, map, refl, sym, ap, arith, Bool}
use Rattle.std.specs.Prelude.{not, slice_index_or}
use Rattle.std.specs.List.{range_with_len}
use Rattle.std.proofs.lemmas.Bool.{and_parts}
use Rattle.std.proofs.lemmas.List.{length-map}
use Rattle.std.proofs.lemmas.List.FromFn.{length-map-range_with_len}
use Rattle.vx_base.specs.PlainValue.{PlainValue, null, truth, is_null, whole_or_zero}
use Rattle.vx_model.specs.Plain.{validity, valid_bits}
use Rattle.vx_model.specs.Rows.{below, combined_at, masked_rows, row_at, valid_rows}
use Rattle.vx_model.specs.WellFormed.{are_canonical}
use Rattle.vx_model.proofs.RowLemmas.{length-masked_rows}
use Rattle.vx_rows.specs.Pairs.{each_pair}
use Rattle.vx_rules.specs.declared.options.CompareOperator.{CompareOperator}
use Rattle.vx_rules.specs.Comparisons.{compared, holds}
use Rattle.vx_time.specs.CanonicalParts.{parts_cmp}
use Rattle.vx_time.specs.declared.parts.TimestampParts.{TimestampParts}
use Rattle.vx_time.specs.PartsOf.{parts}
use Rattle.vx_time.proofs.Canonicals.{canonical_out, parts_cmp-sum_of}
use Rattle.vx_datetime.proofs.ChosenParts.{all_pass, canonical, combined, same-test}
use Rattle.vx_datetime.proofs.EachPart.{each3, numbered}
use Rattle.vx_datetime.proofs.RowAnswers.{valid-masked, whole-at}

-- the parts of a row's values
abbrev pub whole_parts : PlainValue → PlainValue → PlainValue → TimestampParts
whole_parts day second subsecond = parts (whole_or_zero day) (whole_or_zero second) (whole_or_zero subsecond)

-- ---- by number

paired : {A B C : Type 0} (h : A → B → C) (a : ℕ → A) (b : ℕ → B) (xs : List ℕ) → map (λ i. h (a i) (b i)) xs ≡ each_pair h (map a xs) (map b xs)
paired h a b [] = refl
paired h a b (x ∷ xs) = ap (λ ys. h (a x) (b x) ∷ ys) (paired h a b xs)

module _ (op : CompareOperator) (d : ℤ) where
  abbrev pub holds_pair : TimestampParts → TimestampParts → Bool
  holds_pair p q = holds op (parts_cmp p q)

  row-pair : (v s u w t r : PlainValue) → canonical d v s u ≡ true → canonical d w t r ≡ true
      → cond (not (is_null w)) (cond (not (is_null v)) (truth (holds_pair (whole_parts v s u) (whole_parts w t r))) null) null ≡ compared op (combined d v s u) (combined d w t r)
  row-pair null s u null t r e f = refl
  row-pair null s u w t r e f = refl
  row-pair v s u null t r e f = refl
  row-pair v s u w t r e f = ap (λ o. truth (holds op o)) (parts_cmp-sum_of d (whole_parts v s u) (whole_parts w t r) (canonical_out d (whole_parts v s u) e) (canonical_out d (whole_parts w t r) f))

  each-pair : (ds ss us es ts rs : List PlainValue) → length ss ≡ length ds → length us ≡ length ds → length es ≡ length ds → length ts ≡ length es → length rs ≡ length es → all_pass d ds ss us ≡ true → all_pass d es ts rs ≡ true
      → masked_rows (valid_bits es) (masked_rows (valid_bits ds) (map truth (each_pair holds_pair (each3 whole_parts ds ss us) (each3 whole_parts es ts rs))))
      ≡ each_pair (compared op) (each3 (combined d) ds ss us) (each3 (combined d) es ts rs)
  each-pair [] ss us [] ts rs l m n o q h j = refl
  each-pair [] ss us (w ∷ es) ts rs l m n o q h j = absurd (omega (arith, n))
  each-pair (v ∷ ds) ss us [] ts rs l m n o q h j = absurd (omega (arith, n))
  each-pair (v ∷ ds) [] us (w ∷ es) ts rs l m n o q h j = absurd (omega (arith, l))
  each-pair (v ∷ ds) (s ∷ ss) [] (w ∷ es) ts rs l m n o q h j = absurd (omega (arith, m))
  each-pair (v ∷ ds) (s ∷ ss) (u ∷ us) (w ∷ es) [] rs l m n o q h j = absurd (omega (arith, o))
  each-pair (v ∷ ds) (s ∷ ss) (u ∷ us) (w ∷ es) (t ∷ ts) [] l m n o q h j = absurd (omega (arith, q))
  each-pair (v ∷ ds) (s ∷ ss) (u ∷ us) (w ∷ es) (t ∷ ts) (r ∷ rs) l m n o q h j =
      let a = and_parts (canonical d v s u) (all_pass d ds ss us) h in
      let b = and_parts (canonical d w t r) (all_pass d es ts rs) j in
      let rest = each-pair ds ss us es ts rs (omega (arith, l)) (omega (arith, m)) (omega (arith, n)) (omega (arith, o)) (omega (arith, q)) a.1 b.1 in
      λ i. row-pair v s u w t r a.0 b.0 i ∷ rest i

  -- the truth values that are found by number
  pub pairs-answered : (ds ss us es ts rs : List PlainValue) → length ss ≡ length ds → length us ≡ length ds → length es ≡ length ds → length ts ≡ length es → length rs ≡ length es → are_canonical d ds ss us ≡ true → are_canonical d es ts rs ≡ true
      → (bits : List Bool)
      → bits ≡ below (λ i. holds_pair (parts (slice_index_or (map whole_or_zero ds) i (pos 0)) (slice_index_or (map whole_or_zero ss) i (pos 0)) (slice_index_or (map whole_or_zero us) i (pos 0))) (parts (slice_index_or (map whole_or_zero es) i (pos 0)) (slice_index_or (map whole_or_zero ts) i (pos 0)) (slice_index_or (map whole_or_zero rs) i (pos 0)))) (length ds)
      → valid_rows (validity es) (valid_rows (validity ds) (map truth bits)) ≡ each_pair (compared op) (below (combined_at d ds ss us) (length ds)) (below (combined_at d es ts rs) (length es))
  pairs-answered ds ss us es ts rs l m n o q h j bits e =
      let pass = sym (same-test d ds ss us l m) ∙ h in
      let passed = sym (same-test d es ts rs o q) ∙ j in
      let a : ℕ → TimestampParts = λ i. whole_parts (row_at ds i) (row_at ss i) (row_at us i) in
      let b : ℕ → TimestampParts = λ i. whole_parts (row_at es i) (row_at ts i) (row_at rs i) in
      let found : bits ≡ each_pair holds_pair (each3 whole_parts ds ss us) (each3 whole_parts es ts rs) =
      e ∙ ap (λ f. below f (length ds)) (λ k i. holds_pair (parts (whole-at ds i k) (whole-at ss i k) (whole-at us i k)) (parts (whole-at es i k) (whole-at ts i k) (whole-at rs i k)))
      ∙ paired holds_pair a b (range_with_len 0 (length ds))
      ∙ (λ k. each_pair holds_pair (numbered whole_parts ds ss us l m k) (map b (range_with_len 0 (sym n k))))
      ∙ ap (each_pair holds_pair (each3 whole_parts ds ss us)) (numbered whole_parts es ts rs o q)
      in
      let size : length (map truth bits) ≡ length ds = length-map bits truth ∙ ap length e ∙ length-map-range_with_len _ 0 (length ds) in
      let wide : length (masked_rows (valid_bits ds) (map truth bits)) ≡ length es = length-masked_rows (valid_bits ds) (map truth bits) (length-map ds _ ∙ sym size) ∙ size ∙ sym n in
      ap (valid_rows (validity es)) (valid-masked ds (map truth bits) size)
      ∙ valid-masked es (masked_rows (valid_bits ds) (map truth bits)) wide
      ∙ ap (λ bs. masked_rows (valid_bits es) (masked_rows (valid_bits ds) (map truth bs))) found
      ∙ each-pair ds ss us es ts rs l m n o q pass passed
      ∙ sym (λ k. each_pair (compared op) (numbered (combined d) ds ss us l m k) (numbered (combined d) es ts rs o q k))
