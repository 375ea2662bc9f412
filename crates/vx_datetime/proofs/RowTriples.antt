-- Truth values that are found by the parts of three arrays, row by row; null where a day of any is.
use Rattle.std.proofs.Common.{◌≡◌, ◌∙◌, ℕ, ℤ, pos, true, cond, List, [], ◌∷◌, length, map, refl, sym, ap, arith, Bool}
use Rattle.std.specs.Prelude.{◌&&◌, not, slice_index_or, zip}
use Rattle.std.specs.List.{range_with_len}
use Rattle.std.proofs.lemmas.Bool.{and_parts}
use Rattle.std.proofs.lemmas.List.{length-map}
use Rattle.std.proofs.lemmas.List.FromFn.{length-map-range_with_len}
use Rattle.vx_base.specs.PlainValue.{PlainValue, null, truth, is_null, whole_or_zero}
use Rattle.vx_model.specs.Plain.{validity, valid_bits}
use Rattle.vx_model.specs.Rows.{below, combined_at, masked_rows, row_at, valid_rows}
use Rattle.vx_model.specs.WellFormed.{are_canonical}
use Rattle.vx_model.proofs.RowLemmas.{length-masked_rows}
use Rattle.vx_rows.specs.Pairs.{rows_within}
use Rattle.vx_rules.specs.declared.options.BetweenOptions.{BetweenOptions}
use Rattle.vx_rules.specs.Comparisons.{bound_operator, holds, within_bounds}
use Rattle.vx_time.specs.declared.parts.TimestampParts.{TimestampParts}
use Rattle.vx_time.specs.PartsOf.{parts}
use Rattle.vx_time.proofs.Canonicals.{canonical_out, parts_cmp-sum_of}
use Rattle.vx_datetime.specs.Moments.{lie_within}
use Rattle.vx_datetime.proofs.ChosenParts.{all_pass, canonical, combined, same-test}
use Rattle.vx_datetime.proofs.EachPart.{each3, numbered}
use Rattle.vx_datetime.proofs.RowAnswers.{valid-masked, whole-at}
use Rattle.vx_datetime.proofs.RowPairs.{whole_parts}

-- an answer for each row of three lists
abbrev each_triple : {A B C D : Type 0} → (A → B → C → D) → List A → List B → List C → List D
each_triple f xs ys zs = map (λ p. f p.0 p.1.0 p.1.1) (zip xs (zip ys zs))

-- by number
tripled : {A B C D : Type 0} (h : A → B → C → D) (a : ℕ → A) (b : ℕ → B) (c : ℕ → C) (xs : List ℕ) → map (λ i. h (a i) (b i) (c i)) xs ≡ each_triple h (map a xs) (map b xs) (map c xs)
tripled h a b c [] = refl
tripled h a b c (x ∷ xs) = ap (λ ys. h (a x) (b x) (c x) ∷ ys) (tripled h a b c xs)

module _ (options : BetweenOptions) (d : ℤ) where
  row-triple : (v s u w t r x y z : PlainValue) → canonical d v s u ≡ true → canonical d w t r ≡ true → canonical d x y z ≡ true
      → cond (not (is_null x)) (cond (not (is_null w)) (cond (not (is_null v)) (truth (lie_within options (whole_parts v s u) (whole_parts w t r) (whole_parts x y z))) null) null) null
      ≡ within_bounds options (combined d v s u) (combined d w t r) (combined d x y z)
  row-triple null s u null t r null y z e f g = refl
  row-triple null s u null t r x y z e f g = refl
  row-triple null s u w t r null y z e f g = refl
  row-triple null s u w t r x y z e f g = refl
  row-triple v s u null t r null y z e f g = refl
  row-triple v s u null t r x y z e f g = refl
  row-triple v s u w t r null y z e f g = refl
  row-triple v s u w t r x y z e f g =
      let own = canonical_out d (whole_parts v s u) e in
      let above = parts_cmp-sum_of d (whole_parts w t r) (whole_parts v s u) (canonical_out d (whole_parts w t r) f) own in
      let beneath = parts_cmp-sum_of d (whole_parts v s u) (whole_parts x y z) own (canonical_out d (whole_parts x y z) g) in
      λ i. truth (holds (bound_operator options.lower_strict) (above i) && holds (bound_operator options.upper_strict) (beneath i))

  each-within : (ds ss us es ts rs fs ys zs : List PlainValue) → length ss ≡ length ds → length us ≡ length ds → length es ≡ length ds → length ts ≡ length es → length rs ≡ length es → length fs ≡ length ds → length ys ≡ length fs → length zs ≡ length fs
      → all_pass d ds ss us ≡ true → all_pass d es ts rs ≡ true → all_pass d fs ys zs ≡ true
      → masked_rows (valid_bits fs) (masked_rows (valid_bits es) (masked_rows (valid_bits ds) (map truth (each_triple (lie_within options) (each3 whole_parts ds ss us) (each3 whole_parts es ts rs) (each3 whole_parts fs ys zs)))))
      ≡ rows_within options (each3 (combined d) ds ss us) (each3 (combined d) es ts rs) (each3 (combined d) fs ys zs)
  each-within [] ss us [] ts rs [] ys zs l m n o q a b c h j k = refl
  each-within [] ss us [] ts rs (x ∷ fs) ys zs l m n o q a b c h j k = absurd (omega (arith, a))
  each-within [] ss us (w ∷ es) ts rs fs ys zs l m n o q a b c h j k = absurd (omega (arith, n))
  each-within (v ∷ ds) ss us [] ts rs fs ys zs l m n o q a b c h j k = absurd (omega (arith, n))
  each-within (v ∷ ds) ss us (w ∷ es) ts rs [] ys zs l m n o q a b c h j k = absurd (omega (arith, a))
  each-within (v ∷ ds) [] us (w ∷ es) ts rs (x ∷ fs) ys zs l m n o q a b c h j k = absurd (omega (arith, l))
  each-within (v ∷ ds) (s ∷ ss) [] (w ∷ es) ts rs (x ∷ fs) ys zs l m n o q a b c h j k = absurd (omega (arith, m))
  each-within (v ∷ ds) (s ∷ ss) (u ∷ us) (w ∷ es) [] rs (x ∷ fs) ys zs l m n o q a b c h j k = absurd (omega (arith, o))
  each-within (v ∷ ds) (s ∷ ss) (u ∷ us) (w ∷ es) (t ∷ ts) [] (x ∷ fs) ys zs l m n o q a b c h j k = absurd (omega (arith, q))
  each-within (v ∷ ds) (s ∷ ss) (u ∷ us) (w ∷ es) (t ∷ ts) (r ∷ rs) (x ∷ fs) [] zs l m n o q a b c h j k = absurd (omega (arith, b))
  each-within (v ∷ ds) (s ∷ ss) (u ∷ us) (w ∷ es) (t ∷ ts) (r ∷ rs) (x ∷ fs) (y ∷ ys) [] l m n o q a b c h j k = absurd (omega (arith, c))
  each-within (v ∷ ds) (s ∷ ss) (u ∷ us) (w ∷ es) (t ∷ ts) (r ∷ rs) (x ∷ fs) (y ∷ ys) (z ∷ zs) l m n o q a b c h j k =
      let own = and_parts (canonical d v s u) (all_pass d ds ss us) h in
      let low = and_parts (canonical d w t r) (all_pass d es ts rs) j in
      let high = and_parts (canonical d x y z) (all_pass d fs ys zs) k in
      let rest = each-within ds ss us es ts rs fs ys zs (omega (arith, l)) (omega (arith, m)) (omega (arith, n)) (omega (arith, o)) (omega (arith, q)) (omega (arith, a)) (omega (arith, b)) (omega (arith, c)) own.1 low.1 high.1 in
      λ i. row-triple v s u w t r x y z own.0 low.0 high.0 i ∷ rest i

  -- the truth values that are found by number
  pub triples-answered : (ds ss us es ts rs fs ys zs : List PlainValue) → length ss ≡ length ds → length us ≡ length ds → length es ≡ length ds → length ts ≡ length es → length rs ≡ length es → length fs ≡ length ds → length ys ≡ length fs → length zs ≡ length fs
      → are_canonical d ds ss us ≡ true → are_canonical d es ts rs ≡ true → are_canonical d fs ys zs ≡ true
      → (bits : List Bool)
      → bits ≡ below (λ i. lie_within options (parts (slice_index_or (map whole_or_zero ds) i (pos 0)) (slice_index_or (map whole_or_zero ss) i (pos 0)) (slice_index_or (map whole_or_zero us) i (pos 0))) (parts (slice_index_or (map whole_or_zero es) i (pos 0)) (slice_index_or (map whole_or_zero ts) i (pos 0)) (slice_index_or (map whole_or_zero rs) i (pos 0))) (parts (slice_index_or (map whole_or_zero fs) i (pos 0)) (slice_index_or (map whole_or_zero ys) i (pos 0)) (slice_index_or (map whole_or_zero zs) i (pos 0)))) (length ds)
      → valid_rows (validity fs) (valid_rows (validity es) (valid_rows (validity ds) (map truth bits)))
      ≡ rows_within options (below (combined_at d ds ss us) (length ds)) (below (combined_at d es ts rs) (length es)) (below (combined_at d fs ys zs) (length fs))
  triples-answered ds ss us es ts rs fs ys zs l m n o q a b c h j k bits e =
      let pass = sym (same-test d ds ss us l m) ∙ h in
      let low_pass = sym (same-test d es ts rs o q) ∙ j in
      let high_pass = sym (same-test d fs ys zs b c) ∙ k in
      let own : ℕ → TimestampParts = λ i. whole_parts (row_at ds i) (row_at ss i) (row_at us i) in
      let low : ℕ → TimestampParts = λ i. whole_parts (row_at es i) (row_at ts i) (row_at rs i) in
      let high : ℕ → TimestampParts = λ i. whole_parts (row_at fs i) (row_at ys i) (row_at zs i) in
      let found : bits ≡ each_triple (lie_within options) (each3 whole_parts ds ss us) (each3 whole_parts es ts rs) (each3 whole_parts fs ys zs) =
      e ∙ ap (λ f. below f (length ds)) (λ g i. lie_within options (parts (whole-at ds i g) (whole-at ss i g) (whole-at us i g)) (parts (whole-at es i g) (whole-at ts i g) (whole-at rs i g)) (parts (whole-at fs i g) (whole-at ys i g) (whole-at zs i g)))
      ∙ tripled (lie_within options) own low high (range_with_len 0 (length ds))
      ∙ (λ g. each_triple (lie_within options) (numbered whole_parts ds ss us l m g) (map low (range_with_len 0 (sym n g))) (map high (range_with_len 0 (sym a g))))
      ∙ (λ g. each_triple (lie_within options) (each3 whole_parts ds ss us) (numbered whole_parts es ts rs o q g) (numbered whole_parts fs ys zs b c g))
      in
      let size : length (map truth bits) ≡ length ds = length-map bits truth ∙ ap length e ∙ length-map-range_with_len _ 0 (length ds) in
      let wide : length (masked_rows (valid_bits ds) (map truth bits)) ≡ length ds = length-masked_rows (valid_bits ds) (map truth bits) (length-map ds _ ∙ sym size) ∙ size in
      let wider : length (masked_rows (valid_bits es) (masked_rows (valid_bits ds) (map truth bits))) ≡ length ds = length-masked_rows (valid_bits es) (masked_rows (valid_bits ds) (map truth bits)) (length-map es _ ∙ n ∙ sym wide) ∙ wide in
      ap (λ xs. valid_rows (validity fs) (valid_rows (validity es) xs)) (valid-masked ds (map truth bits) size)
      ∙ ap (valid_rows (validity fs)) (valid-masked es (masked_rows (valid_bits ds) (map truth bits)) (wide ∙ sym n))
      ∙ valid-masked fs (masked_rows (valid_bits es) (masked_rows (valid_bits ds) (map truth bits))) (wider ∙ sym a)
      ∙ ap (λ bs. masked_rows (valid_bits fs) (masked_rows (valid_bits es) (masked_rows (valid_bits ds) (map truth bs)))) found
      ∙ each-within ds ss us es ts rs fs ys zs l m n o q a b c pass low_pass high_pass
      ∙ sym (λ g. rows_within options (numbered (combined d) ds ss us l m g) (numbered (combined d) es ts rs o q g) (numbered (combined d) fs ys zs b c g))
