-- Rows by the places of their values: what they are decoded to.
use Rattle.std.proofs.Common.{◌≡◌, ◌<◌, ◌/◌, ◌^◌, ◌∙◌, ℕ, ℤ, map, length, true, None, refl, sym, ap, arith}
use Rattle.std.specs.Prelude.{◌+ℤ◌}
use Rattle.std.specs.List.{list_all, range_with_len}
use Rattle.std.proofs.lemmas.Bool.{lt-ltb}
use Rattle.std.proofs.lemmas.Int.{ints}
use Rattle.std.proofs.lemmas.List.{map-id}
use Rattle.std.proofs.lemmas.Simd.{map-map}
use Rattle.vx_base.specs.declared.ptype.PType.TheVariants.{U64}
use Rattle.vx_base.specs.declared.dtype.Nullability.TheVariants.{NonNullable}
use Rattle.vx_base.specs.Defaults.{default_of, or_default}
use Rattle.vx_base.specs.Integers.{lies_in}
use Rattle.vx_base.specs.PlainType.{is_flat}
use Rattle.vx_base.specs.PlainValue.{int, whole_or_zero}
use Rattle.vx_model.specs.Decoded.{zeroed_by, picked}
use Rattle.vx_model.specs.Plain.{validity}
use Rattle.vx_model.specs.Refusals.{dict_refusal}
use Rattle.vx_model.specs.Rows.{rows, row_at, below, block_rows, looked_up, rle_place}
use Rattle.vx_model.specs.Tree.{Tree, Validity, primitive, dict, rle}
use Rattle.vx_model.specs.TreeType.{tree_type}
use Rattle.vx_model.specs.WellFormed.{WellFormed, is_place}
use Rattle.vx_model.proofs.DecodeLemmas.{validity-cells}
use Rattle.vx_model.proofs.DictDecodeLemmas.{default_of-dict}
use Rattle.vx_model.proofs.DictLemmas.{dict_accepted}
use Rattle.vx_model.proofs.MadeLemmas.{primitive_made}
use Rattle.vx_model.proofs.RleLemmas.{rle-code}
use Rattle.vx_values.specs.declared.decoded.Decoded.{Decoded}
use Rattle.vx_values.specs.declared.ints.Ints.{Ints}
use Rattle.vx_values.specs.Codes.{validity_by_codes}
use Rattle.vx_values.specs.IntsOf.{ptype_of, wholes_of}
use Rattle.vx_values.specs.ValuesOf.{kind_of, kind_in, values_of, default_in, AreRows}
use Rattle.vx_array.specs.IsDecoded.{IsDecoded}
use Rattle.vx_array.specs.Lent.{AreIntegers}
use Rattle.vx_flat.specs.RunPlaces.{block_place, IsWord}
use Rattle.vx_array.proofs.Decodings.{dict_rows, kind_of-dict}
use Rattle.vx_array.proofs.Flat.{integer_flat}
use Rattle.vx_array.proofs.SumLemmas.{whole_row}
use Rattle.vx_flat.proofs.RunPlaces.{below-same, passing}

-- ---- rows whose values stand at places among others

-- as a dict of the places is decoded
module _ (values : Tree) (f : ℕ → ℤ) (n : ℕ) where
  abbrev pub placed : Tree
  placed = primitive U64 (below f n) None NonNullable

  cells : map int (below f n) ≡ below (λ i. int (f i)) n
  cells = map-map int f (range_with_len 0 n)

  pub placed_rows : (t : Tree) (xs : Ints) (v d : Decoded) → WellFormed values → is_flat (tree_type values) ≡ true → tree_type t ≡ tree_type values → ptype_of xs ≡ U64 → wholes_of xs ≡ below f n
      → ((i : ℕ) → i < n → lies_in U64 (f i) ≡ true) → ((i : ℕ) → i < n → is_place (length (rows values)) (int (f i)) ≡ true) → rows t ≡ below (λ i. looked_up (rows values) (int (f i))) n → IsDecoded values v
      → AreRows (kind_in v.values) (zeroed_by (default_in (kind_in v.values)) None (map (λ code. picked (ptype_of xs) (values_of v.values) (default_in (kind_in v.values)) code) (wholes_of xs))) (validity_by_codes (ptype_of xs) (wholes_of xs) None v.valid) d
      → IsDecoded t d
  placed_rows t xs v d w flat typed kind wholes held places are hv r =
      let codes : WellFormed placed = primitive_made U64 (below f n) None NonNullable refl refl (passing (lies_in U64) f n held) in
      let there : list_all (is_place (length (rows values))) (rows placed) ≡ true = ap (list_all (is_place (length (rows values)))) cells ∙ passing (is_place (length (rows values))) (λ i. int (f i)) n places in
      let accepted : dict_refusal placed values ≡ None = rw (flat, there) refl in
      let whole : wholes_of xs ≡ map whole_or_zero (map int (below f n)) = wholes ∙ sym (map-map whole_or_zero int (below f n) ∙ map-id (below f n)) in
      let own : AreIntegers placed xs None = record { ptype = kind; wholes = whole; bits = sym (validity-cells None (below f n) NonNullable tt) } in
      let decoded : IsDecoded (dict placed values) d = dict_rows placed values xs None v d (dict_accepted placed values accepted codes w) own hv r in
      let default : default_of (tree_type (dict placed values)) ≡ default_of (tree_type t) = default_of-dict (tree_type placed) (tree_type values) ∙ ap default_of (sym typed) in
      let same : rows (dict placed values) ≡ rows t = ap (map (looked_up (rows values))) cells ∙ map-map (looked_up (rows values)) (λ i. int (f i)) (range_with_len 0 n) ∙ sym are in (
        decoded.0 ∙ kind_of-dict (tree_type placed) (tree_type values) ∙ ap kind_of (sym typed),
        decoded.1 ∙ (λ i. map (or_default (default i)) (same i)),
        decoded.2 ∙ ap validity same,
      )

-- ---- the places of blocks of runs

-- of decoded columns and of trees they are the same
block_place-rows : (indices offsets : Tree) (is os : Ints) (iv ov : Validity) → AreIntegers indices is iv → AreIntegers offsets os ov → (i : ℕ)
    → block_place (wholes_of os) (wholes_of is) i ≡ whole_or_zero (row_at (rows offsets) (i / block_rows)) +ℤ whole_or_zero (row_at (rows indices) i)
block_place-rows indices offsets is os iv ov hi ho i = (λ j. block_place (ho.wholes j) (hi.wholes j) i) ∙ sym (λ j. whole_row (rows offsets) (i / block_rows) j +ℤ whole_row (rows indices) i j)

-- so they are places of as many values
pub block_places-rows : (values len : ℕ) (indices offsets : Tree) (is os : Ints) (iv ov : Validity) → AreIntegers indices is iv → AreIntegers offsets os ov
    → list_all (is_place values) (below (λ i. int (block_place (wholes_of os) (wholes_of is) i)) len) ≡ list_all (is_place values) (below (rle_place (rows offsets) (rows indices)) len)
block_places-rows values len indices offsets is os iv ov hi ho =
    ap (list_all (is_place values)) (below-same (λ i. int (block_place (wholes_of os) (wholes_of is) i)) (rle_place (rows offsets) (rows indices)) len (λ i l. ap int (block_place-rows indices offsets is os iv ov hi ho i)))

module _ (values indices offsets : Tree) (len : ℕ) (is os : Ints) (iv ov : Validity) (w : WellFormed (rle values indices offsets len)) (hi : AreIntegers indices is iv) (ho : AreIntegers offsets os ov) where
  abbrev pub own_place : ℕ → ℤ
  own_place i = whole_or_zero (row_at (rows offsets) (i / block_rows)) +ℤ whole_or_zero (row_at (rows indices) i)

  pub block_place-own : (i : ℕ) → block_place (wholes_of os) (wholes_of is) i ≡ own_place i
  block_place-own i = block_place-rows indices offsets is os iv ov hi ho i

  -- each is a place of a value
  there : (i : ℕ) → i < len → is_place (length (rows values)) (int (own_place i)) ≡ true
  there i l = let c = rle-code values indices offsets len i w l in ap (λ z. is_place (length (rows values)) (int z)) c.is ∙ lt-ltb _ _ c.within

  own_place-held : length (rows values) < 2 ^ 64 → (i : ℕ) → i < len → lies_in U64 (own_place i) ≡ true
  own_place-held few i l = let c = rle-code values indices offsets len i w l in ap (lies_in U64) c.is ∙ lt-ltb c.place (2 ^ 64) (let a = c.within in omega arith)

  pub block_place-word : length (rows values) < 2 ^ 64 → (i : ℕ) → i < len → IsWord (block_place (wholes_of os) (wholes_of is) i)
  block_place-word few i l =
      let c = rle-code values indices offsets len i w l in
      let is = block_place-own i ∙ c.is in
      let within = c.within in
      (omega (arith, ints, is), omega (arith, ints, is, within, few))

  pub rle_rows : (places : Ints) (v d : Decoded) → length (rows values) < 2 ^ 64 → ptype_of places ≡ U64 → wholes_of places ≡ below (block_place (wholes_of os) (wholes_of is)) len → IsDecoded values v
      → AreRows (kind_in v.values) (zeroed_by (default_in (kind_in v.values)) None (map (λ code. picked (ptype_of places) (values_of v.values) (default_in (kind_in v.values)) code) (wholes_of places))) (validity_by_codes (ptype_of places) (wholes_of places) None v.valid) d
      → IsDecoded (rle values indices offsets len) d
  rle_rows places v d few kind wholes hv r =
      placed_rows values own_place len (rle values indices offsets len) places v d w.0 (integer_flat (tree_type values) w.3.values_type) refl kind (wholes ∙ below-same (block_place (wholes_of os) (wholes_of is)) own_place len (λ i l. block_place-own i))
      (own_place-held few) there refl hv r
