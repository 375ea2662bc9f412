-- The items at indices, with the validity of both: the rows that the indices look up.
use Rattle.std.proofs.Common.{◌≡◌, ◌<◌, ℕ, zero, suc, ℤ, pos, negsuc, Bool, true, false, cond, List, [], ◌∷◌, length, map, Some, None, refl, sym, ap, subst, arith, zero-add, ◌∙◌}
use Rattle.std.specs.Prelude.{◌&&◌, slice_index_or}
use Rattle.std.specs.List.{list_all, range_with_len}
use Rattle.std.proofs.lemmas.Bool.{and_parts, cond_both, eq-eqb, eqb-true, ltb-true}
use Rattle.std.proofs.lemmas.List.{ext_get_or, get_or-map, length-map}
use Rattle.std.proofs.lemmas.List.FromFn.{length-map-range_with_len, get_or-map-range_with_len}
use Rattle.vx_base.specs.declared.dtype.Nullability.{Nullability}
use Rattle.vx_base.specs.declared.dtype.Nullability.TheVariants.{NonNullable, Nullable}
use Rattle.vx_base.specs.declared.ptype.PType.{PType}
use Rattle.vx_base.specs.Integers.{bits_in}
use Rattle.vx_base.specs.PlainType.{or_nullable}
use Rattle.vx_base.specs.PlainValue.{PlainValue, null, int, is_null}
use Rattle.vx_model.specs.Decoded.{picked, picks_valid}
use Rattle.vx_model.specs.Refusals.{kept, primitive_refusal, validity_allowed, validity_length}
use Rattle.vx_model.specs.Rows.{row_at, valid_rows, is_valid_at, looked_up}
use Rattle.vx_model.specs.Tree.{Validity}
use Rattle.vx_model.specs.WellFormed.{IsValidityOf, is_place}
use Rattle.vx_model.proofs.FlatLemmas.{length-flat, row_at-flat}
use Rattle.vx_model.proofs.FrameOfReferenceLemmas.{row_passes}
use Rattle.vx_model.proofs.MadeLemmas.{kept_validity}
use Rattle.vx_model.proofs.RowLemmas.{length-valid_rows, row_at-valid_rows, row_at-cells, length-cells}
use Rattle.vx_values.specs.Codes.{validity_by_codes}
use Rattle.vx_selections.proofs.Narrowing.{bits-allowed}
use Rattle.vx_selections.proofs.Validities.{admitted, kept-allowed, kept-length, own-length}

-- ---- bits in their one form are the same bits

true_at : (bits : List Bool) (k : ℕ) → list_all (λ bit. bit) bits ≡ true → k < length bits → slice_index_or bits k false ≡ true
true_at [] k h l = absurd (omega arith)
true_at (b ∷ bits) zero h l = (and_parts b (list_all (λ bit. bit) bits) h).0
true_at (b ∷ bits) (suc k) h l = true_at bits k (and_parts b (list_all (λ bit. bit) bits) h).1 (omega arith)

kept-at : (valid : Validity) (len k : ℕ) → validity_length valid len ≡ true → k < len → is_valid_at (kept valid) k ≡ is_valid_at valid k
kept-at None len k h l = refl
kept-at (Some bits) len k h l =
    cond_both (list_all (λ bit. bit) bits) None (Some bits) (λ valid. is_valid_at valid k ≡ slice_index_or bits k false)
    (λ all. sym (true_at bits k all (omega (arith, eqb-true _ _ h, l)))) (λ some. refl)

-- ---- validity by codes

module _ (p : PType) (zs : List ℤ) (codes own : Validity) (len : ℕ) (n m : Nullability) (c : IsValidityOf codes (length zs) m) (h : IsValidityOf own len n) where
  by_codes-length : validity_length (validity_by_codes p zs codes own) (length zs) ≡ true
  by_codes-length = long own
    where
      long : (own : Validity) → validity_length (validity_by_codes p zs codes own) (length zs) ≡ true
      long None = own-length codes (length zs) m c
      long (Some bits) = kept-length (Some (map (picks_valid p bits codes zs) (range_with_len 0 (length zs)))) (length zs) (eq-eqb _ _ (length-map-range_with_len (picks_valid p bits codes zs) 0 (length zs)))

  by_codes-allowed : validity_allowed (validity_by_codes p zs codes own) (or_nullable n m) ≡ true
  by_codes-allowed = allowed own codes h c
    where
      either : (n m : Nullability) → m ≡ Nullable → or_nullable n m ≡ Nullable
      either NonNullable m e = e
      either Nullable m e = refl

      first : (n m : Nullability) → n ≡ Nullable → or_nullable n m ≡ Nullable
      first n m e = ap (λ k. or_nullable k m) e

      allowed : (own codes : Validity) → IsValidityOf own len n → IsValidityOf codes (length zs) m → validity_allowed (validity_by_codes p zs codes own) (or_nullable n m) ≡ true
      allowed None None h c = refl
      allowed None (Some bits) h c = bits-allowed bits (or_nullable n m) (either n m c.1)
      allowed (Some bits) codes h c =
          let all = map (picks_valid p bits codes zs) (range_with_len 0 (length zs)) in
          kept-allowed (Some all) (or_nullable n m) (bits-allowed all (or_nullable n m) (first n m h.1))

  pub by_codes-admitted : primitive_refusal (length zs) (validity_by_codes p zs codes own) (or_nullable n m) ≡ None
  by_codes-admitted = admitted (validity_by_codes p zs codes own) (length zs) (or_nullable n m) by_codes-length by_codes-allowed

  -- a row is valid where its code is and that value is
  by_codes-at : (k : ℕ) → k < length zs → is_valid_at (kept (validity_by_codes p zs codes own)) k ≡ (is_valid_at codes k && is_valid_at own (bits_in p (slice_index_or zs k (pos 0))))
  by_codes-at k l = kept-at (validity_by_codes p zs codes own) (length zs) k by_codes-length l ∙ at own
    where
      alone : (b : Bool) → b ≡ (b && true)
      alone true = refl
      alone false = refl

      at : (own : Validity) → is_valid_at (validity_by_codes p zs codes own) k ≡ (is_valid_at codes k && is_valid_at own (bits_in p (slice_index_or zs k (pos 0))))
      at None = alone (is_valid_at codes k)
      at (Some bits) =
          let all = map (picks_valid p bits codes zs) (range_with_len 0 (length zs)) in
          kept-at (Some all) (length zs) k (eq-eqb _ _ (length-map-range_with_len (picks_valid p bits codes zs) 0 (length zs))) l
          ∙ get_or-map-range_with_len (picks_valid p bits codes zs) 0 (length zs) k k false l (zero-add k)

-- ---- rows

module _ {A : Type 0} (value : A → PlainValue) (some : (x : A) → is_null (value x) ≡ false) (default : A) (p : PType) (xs : List A) (own : Validity) (n : Nullability) (h : IsValidityOf own (length xs) n)
    (zs : List ℤ) (codes : Validity) (m : Nullability) (c : IsValidityOf codes (length zs) m) (places : list_all (is_place (length (valid_rows own (map value xs)))) (valid_rows codes (map int zs)) ≡ true) where
  abbrev vs : List PlainValue
  vs = valid_rows own (map value xs)

  abbrev made : Validity
  made = kept (validity_by_codes p zs codes own)

  abbrev items : List A
  items = map (λ code. picked p xs default code) zs

  long : length vs ≡ length xs
  long = length-flat value some xs own n h

  count : length items ≡ length zs
  count = length-map zs (λ code. picked p xs default code)

  own_made : IsValidityOf made (length (map value items)) (or_nullable n m)
  own_made =
      subst (λ k. IsValidityOf made k (or_nullable n m)) (sym (length-map items value ∙ count))
      (kept_validity (validity_by_codes p zs codes own) (length zs) (or_nullable n m) (by_codes-length p zs codes own (length xs) n m c h) (by_codes-allowed p zs codes own (length xs) n m c h))

  -- the value at a code that is a place
  looked : (z : ℤ) → is_place (length vs) (int z) ≡ true → cond (is_valid_at own (bits_in p z)) (value (picked p xs default z)) null ≡ looked_up vs (int z)
  looked (pos j) e = sym (row_at-flat value some xs own n h default j (subst (λ k. j < k) long (ltb-true _ _ e)))
  looked (negsuc j) e = absurd cc

  at_code : (b : Bool) (z : ℤ) → is_place (length vs) (cond b (int z) null) ≡ true → cond (b && is_valid_at own (bits_in p z)) (value (picked p xs default z)) null ≡ looked_up vs (cond b (int z) null)
  at_code true z e = looked z e
  at_code false z e = refl

  row_is : (k : ℕ) → k < length zs → row_at (valid_rows made (map value items)) k ≡ row_at (map (looked_up vs) (valid_rows codes (map int zs))) k
  row_is k l =
      let z = slice_index_or zs k (pos 0) in
      let codes_long = own-length codes (length zs) m c in
      let cell = row_at-cells codes zs k codes_long l in
      let item = get_or-map value items k (picked p xs default (pos 0)) null (subst (λ j. k < j) (sym count) l) ∙ ap value (get_or-map (λ code. picked p xs default code) zs k (pos 0) (picked p xs default (pos 0)) l) in
      let place = ap (is_place (length vs)) (sym cell) ∙ row_passes (is_place (length vs)) (valid_rows codes (map int zs)) k (subst (λ j. k < j) (sym (length-cells codes zs codes_long)) l) places in
      row_at-valid_rows made (map value items) (or_nullable n m) k own_made
      ∙ (λ i. cond (by_codes-at p zs codes own (length xs) n m c h k l i) (item i) null)
      ∙ at_code (is_valid_at codes k) z place ∙ ap (looked_up vs) (sym cell)
      ∙ sym (get_or-map (looked_up vs) (valid_rows codes (map int zs)) k null null (subst (λ j. k < j) (sym (length-cells codes zs codes_long)) l))

  pub taken_rows : valid_rows made (map value items) ≡ map (looked_up vs) (valid_rows codes (map int zs))
  taken_rows =
      let left = length-valid_rows made (map value items) (or_nullable n m) own_made ∙ length-map items value ∙ count in
      let right = length-map (valid_rows codes (map int zs)) (looked_up vs) ∙ length-cells codes zs (own-length codes (length zs) m c) in
      ext_get_or null _ _ (left ∙ sym right) (λ k l. row_is k (subst (λ j. k < j) left l))

  pub taken_admitted : primitive_refusal (length items) (validity_by_codes p zs codes own) (or_nullable n m) ≡ None
  taken_admitted = ap (λ k. primitive_refusal k (validity_by_codes p zs codes own) (or_nullable n m)) count ∙ by_codes-admitted p zs codes own (length xs) n m c h
