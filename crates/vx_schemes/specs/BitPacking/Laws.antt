-- What bit packing makes is well formed, and stands for the column.
use Rattle.std.proofs.Common.{◌≡◌, ◌<◌, ◌≤◌, ◌+◌, ◌*◌, ◌^◌, ◌∙◌, ℕ, zero, suc, ℤ, pos, negsuc, Bool, true, false, List, [], ◌∷◌, length, map, get_or, Option, Some, None, cond, refl, sym, ap, subst, arith}
use Rattle.std.specs.Prelude.{◌||◌, ◌==◌, nat_le, nat_lt, not, IfSome, slice_index_or}
use Rattle.std.specs.List.{list_all, list_any}
use Rattle.std.proofs.lemmas.Bool.{and_parts, or_parts}
use Rattle.std.proofs.lemmas.List.{length-map, get_or-map, ext_get_or}
use Rattle.std.proofs.Math.Nat as nat
use Rattle.vx_base.specs.declared.ptype.PType.{PType}
use Rattle.vx_base.specs.declared.dtype.Nullability.{Nullability}
use Rattle.vx_base.specs.declared.dtype.Nullability.TheVariants.{NonNullable, Nullable}
use Rattle.vx_base.specs.Integers.{bits_of, bits_in, bytes_of, lies_in, natural_bits}
use Rattle.vx_base.specs.Packed.{kept_row, kept_rows, packed_number, packed_size, packed_row, wide_rows, is_wide}
use Rattle.vx_base.specs.PlainScalar.{fits}
use Rattle.vx_base.specs.PlainType as types
use Rattle.vx_base.specs.IntegersIn.{integer_in}
use Rattle.vx_base.specs.PlainValue.{PlainValue, null, int, cell, is_null, whole_or_zero}
use Rattle.vx_base.proofs.BytesLemmas.{length-bytes_in, bytes_in-held, packed_number-bytes_in}
use Rattle.vx_base.proofs.IntegerLemmas.{by_integer, row-integer_in}
use Rattle.vx_base.proofs.NullLemmas.{all-not_null}
use Rattle.vx_blocks.specs.Cost.{cost}
use Rattle.vx_blocks.specs.IsPacked.{IsPacked}
use Rattle.vx_blocks.proofs.ReadBack.{unpacked}
use Rattle.vx_blocks.proofs.Rows.{length-kept_rows, kept_rows-fit, place_within}
use Rattle.vx_blocks.proofs.Windows.{packed_number-lt}
use Rattle.vx_model.specs.Column.{column, column_of}
use Rattle.vx_model.specs.Plain.{valid_bits}
use Rattle.vx_model.specs.Refusals.{kept, validity_allowed}
use Rattle.vx_model.specs.Rows.{rows, row_at, is_valid_at, packed_at, packed_or_patch, patched}
use Rattle.vx_model.specs.Tree.{Tree, PlainPacked, plain_packed}
use Rattle.vx_model.specs.WellFormed.{WellFormed, WellFormedPatches, ascend}
use Rattle.vx_model.proofs.DecodeLemmas.{null_allowed}
use Rattle.vx_model.proofs.PackedLemmas.{packed_accepted}
use Rattle.vx_model.proofs.PackedOfLemmas.{length-packed_of, row_at-packed_of, type-packed_of}
use Rattle.vx_model.proofs.PlainLemmas.{wholes_lie_in}
use Rattle.vx_schemes.specs.BitPacking.Tree.{is_negative, packed_bytes, patches_at, patches_of, packed_tree, packing_of, bit_packing_made}
use Rattle.vx_schemes_common.specs.StandsFor.{StandsFor, AllStandFor}
use Rattle.vx_schemes.specs.Widths.{widths_of, best_width_of}
use Rattle.vx_schemes.specs.BitPacking.Admitted.{packed_admitted}
use Rattle.vx_schemes.specs.BitPacking.Rising.{wide_rows-ascend}
use Rattle.vx_schemes.specs.BitPacking.Picked.{picked_at, picked-filter}
use Rattle.vx_schemes.specs.Patches.Laws.{short_well, patches_at-well, values-column, rows-narrowed, rows-constant_or_plain}
use Rattle.vx_schemes.specs.BitPacking.FirstLeast.{first_least-le, narrow_width}

-- ---- well formed

patches_known : (p : PType) (xs : List ℤ) (chosen : List ℕ) → length xs ≤ 2 ^ 64 → list_all (lies_in p) xs ≡ true → ascend 0 (length xs) (map int (map pos chosen)) ≡ true → IfSome (patches_of p xs chosen) WellFormedPatches
patches_known p xs [] few held a = tt
patches_known p xs (row ∷ chosen) few held a = short_well (patches_at p xs (row ∷ chosen)) refl (patches_at-well p xs (row ∷ chosen) few held a)

pub packed_tree-well : (p : PType) (n : Nullability) (xs : List ℤ) (valid : List Bool) (width : ℕ) → length xs ≤ 2 ^ 64 → list_all (lies_in p) xs ≡ true → length valid ≡ length xs → validity_allowed (Some valid) n ≡ true
    → nat_le width (natural_bits p) ≡ true → WellFormed (packed_tree p n xs valid width)
packed_tree-well p n xs valid width few held same allowed narrow =
    let wide = wide_rows width (map (bits_in p) xs) valid in
    packed_accepted (plain_packed p width (packed_bytes p width xs valid) (length xs) (Some valid) n) (patches_of p xs wide) (packed_admitted p n xs valid width wide same allowed narrow) (bytes_in-held _ _)
    (patches_known p xs wide few held (wide_rows-ascend p width xs valid))

-- ---- the bits of a row

bytes_hold : (p : PType) (width : ℕ) (xs : List ℤ) (valid : List Bool) → length valid ≡ length xs → IsPacked width (kept_rows width (map (bits_in p) xs) valid) (packed_bytes p width xs valid)
bytes_hold p width xs valid same =
    let bits = map (bits_in p) xs in
    let long : length bits ≡ length xs = length-map xs (bits_in p) in
    let rows : length (kept_rows width bits valid) ≡ length xs = length-kept_rows width bits valid (same ∙ sym long) ∙ long in
    let small : packed_number width (kept_rows width bits valid) < 2 ^ (width * length (kept_rows width bits valid)) = packed_number-lt width (kept_rows width bits valid) (kept_rows-fit width bits valid) in
    let room : width * length (kept_rows width bits valid) ≤ 8 * packed_size width (length xs) = rw rows (place_within width (length xs) (length xs) (packed_size width (length xs)) (omega arith) refl) in
    let more : 2 ^ (width * length (kept_rows width bits valid)) ≤ 2 ^ (8 * packed_size width (length xs)) = nat.pow-le-pow_right (omega arith) room in
    record {
      number = packed_number-bytes_in (packed_size width (length xs)) (packed_number width (kept_rows width bits valid)) (omega arith);
      size = length-bytes_in (packed_size width (length xs)) _ ∙ ap (packed_size width) (sym rows);
    }

-- ---- a row, where no value is negative

module _ (p : PType) (n : Nullability) (xs : List ℤ) (valid : List Bool) (width : ℕ) (same : length valid ≡ length xs) where
  abbrev packed : PlainPacked
  packed = plain_packed p width (packed_bytes p width xs valid) (length xs) (kept (Some valid)) n

  abbrev wide : List ℕ
  wide = wide_rows width (map (bits_in p) xs) valid

  abbrev value_at : ℕ → PlainValue
  value_at row = int (slice_index_or xs row (pos 0))

  twice : (chosen : List ℕ) → map int (map (λ row. slice_index_or xs row (pos 0)) chosen) ≡ map value_at chosen
  twice [] = refl
  twice (row ∷ chosen) = ap (λ vs. value_at row ∷ vs) (twice chosen)

  by_patches : list_all (lies_in p) xs ≡ true → (chosen : List ℕ) (i : ℕ) → ascend 0 (length xs) (map int (map pos chosen)) ≡ true → packed_or_patch packed (patches_of p xs chosen) i ≡ picked_at value_at (packed_at packed i) i chosen
  by_patches held [] i a = refl
  by_patches held (row ∷ chosen) i a =
      let made = patches_at p xs (row ∷ chosen) in
      let is = rows-narrowed made.indices 0 (length xs) a in
      let vs = rows-constant_or_plain (column_of made.values) (values-column p xs (row ∷ chosen) held a) ∙ twice (row ∷ chosen) in
      let first : 0 + i ≡ i = omega arith in
      λ j. patched (is j) (vs j) (packed_at packed i) (first j)

  pub packed_row-at : list_all (lies_in p) xs ≡ true → (i : ℕ) → i < length xs → packed_or_patch packed (patches_of p xs wide) i
      ≡ cond (is_wide width (get_or (map (bits_in p) xs) i 0) (get_or valid i false)) (value_at i) (int (pos (kept_row width (get_or (map (bits_in p) xs) i 0) (get_or valid i false))))
  packed_row-at held i h =
      let bits = map (bits_in p) xs in
      let long : length bits ≡ length xs = length-map xs (bits_in p) in
      let at : packed_row (packed_bytes p width xs valid) width i ≡ kept_row width (get_or bits i 0) (get_or valid i false) =
      unpacked width bits valid (packed_bytes p width xs valid) i (same ∙ sym long) (omega arith) (bytes_hold p width xs valid same) in
      by_patches held wide i (wide_rows-ascend p width xs valid)
      ∙ picked-filter value_at (packed_at packed i) i (λ k. is_wide width (get_or bits k 0) (get_or valid k false)) 0 (length bits) (omega arith) (omega arith)
      ∙ ap (λ b. cond (is_wide width (get_or bits i 0) (get_or valid i false)) (value_at i) (int (pos b))) at

  -- the bits that stay tell which rows are valid
  is_valid-kept : (i : ℕ) → i < length xs → is_valid_at (kept (Some valid)) i ≡ get_or valid i false
  is_valid-kept i h = by_all (list_all (λ bit. bit) valid) refl
    where
      set : (bits : List Bool) (k : ℕ) → k < length bits → list_all (λ bit. bit) bits ≡ true → true ≡ get_or bits k false
      set [] k l a = absurd (omega arith)
      set (b ∷ bits) zero l a = sym (and_parts b (list_all (λ bit. bit) bits) a).0
      set (b ∷ bits) (suc k) l a = set bits k (omega arith) (and_parts b (list_all (λ bit. bit) bits) a).1

      by_all : (b : Bool) → list_all (λ bit. bit) valid ≡ b → is_valid_at (cond b None (Some valid)) i ≡ get_or valid i false
      by_all true a = set valid i (omega arith) a
      by_all false a = refl

-- ---- the rows are the column's

-- a row by its value: null where it isn't valid, else its patch or its bits
abbrev IsRowOf : PType → ℕ → ℤ → ℕ → Bool → PlainValue → Type 0
IsRowOf p width x bits valid v = x ≡ whole_or_zero v → bits ≡ bits_in p x → valid ≡ not (is_null v) → is_negative x ≡ false
    → cond valid (cond (is_wide width bits valid) (int x) (int (pos (kept_row width bits valid)))) null ≡ v

row_back : (p : PType) (width : ℕ) (o : Option ℤ) (x : ℤ) (bits : ℕ) (valid : Bool) → IsRowOf p width x bits valid (cell o)
row_back p width None x bits valid e f g h = rw g refl
row_back p width (Some (negsuc m)) x bits valid e f g h = absurd (no (ap is_negative (sym e) ∙ h))
  where
    no : true ≡ false → ⊥
    no q = cc
row_back p width (Some (pos m)) x bits valid e f g h =
    let same : bits ≡ m = f ∙ ap (bits_in p) e in
    rw (g, e, same) (by_test (nat_lt m (2 ^ width)))
  where
    by_test : (b : Bool) → cond (not b) (int (pos m)) (int (pos (cond b m 0))) ≡ int (pos m)
    by_test true = refl
    by_test false = refl

none_negative : (xs : List ℤ) (i : ℕ) → list_any is_negative xs ≡ false → i < length xs → is_negative (slice_index_or xs i (pos 0)) ≡ false
none_negative [] i h l = absurd (omega arith)
none_negative (x ∷ xs) zero h l = (or_parts (is_negative x) (list_any is_negative xs) h).0
none_negative (x ∷ xs) (suc i) h l = none_negative xs i (or_parts (is_negative x) (list_any is_negative xs) h).1 (omega arith)

module _ (p : PType) (n : Nullability) (vs : List PlainValue) (width : ℕ) where
  abbrev wholes : List ℤ
  wholes = map whole_or_zero vs

  abbrev bits : List Bool
  bits = valid_bits vs

  long_wholes : length wholes ≡ length vs
  long_wholes = length-map vs whole_or_zero

  long_bits : length bits ≡ length wholes
  long_bits = length-map vs (λ v. not (is_null v)) ∙ sym long_wholes

  pub rows-packed_tree : list_all (fits (types.primitive p n)) vs ≡ true → WellFormed (packed_tree p n wholes bits width) → list_any is_negative wholes ≡ false → rows (packed_tree p n wholes bits width) ≡ vs
  rows-packed_tree fit w none =
      let t = packed_tree p n wholes bits width in
      let k = packed p n wholes bits width long_bits in
      let o = patches_of p wholes (wide p n wholes bits width long_bits) in
      let long : length (rows t) ≡ length vs = length-packed_of k o w ∙ long_wholes in
      ext_get_or null (rows t) vs long (λ i h.
      let l : i < length wholes = omega (arith, h, long, long_wholes) in
      let m : i < length vs = omega (arith, h, long) in
      let x : get_or wholes i (pos 0) ≡ whole_or_zero (row_at vs i) = get_or-map whole_or_zero vs i null (pos 0) m in
      let b : get_or bits i false ≡ not (is_null (row_at vs i)) = get_or-map (λ v. not (is_null v)) vs i null false m in
      let f : get_or (map (bits_in p) wholes) i 0 ≡ bits_in p (get_or wholes i (pos 0)) = get_or-map (bits_in p) wholes i (pos 0) 0 l in
      let valid = is_valid-kept p n wholes bits width long_bits i l in
      let row = packed_row-at p n wholes bits width long_bits (wholes_lie_in p n vs fit) i l in
      row_at-packed_of k o i w l ∙ (λ j. cond (valid j) (row j) null) ∙ back i x f b (none_negative wholes i none l))
    where
      back : (i : ℕ) → IsRowOf p width (get_or wholes i (pos 0)) (get_or (map (bits_in p) wholes) i 0) (get_or bits i false) (row_at vs i)
      back i =
          let one = IsRowOf p width (get_or wholes i (pos 0)) (get_or (map (bits_in p) wholes) i 0) (get_or bits i false) in
          subst one (row-integer_in p n vs i fit) (row_back p width (integer_in (row_at vs i)) _ _ _)

-- ---- the law

bits_allowed : (p : PType) (n : Nullability) (vs : List PlainValue) → list_all (fits (types.primitive p n)) vs ≡ true → validity_allowed (Some (valid_bits vs)) n ≡ true
bits_allowed p Nullable vs h = refl
bits_allowed p NonNullable vs h = all-not_null vs ∙ ap not (null_allowed p vs h)

packing-typed : (p : PType) (n : Nullability) (vs : List PlainValue) (t : Tree) → length vs ≤ 2 ^ 32 → list_all (fits (types.primitive p n)) vs ≡ true → packing_of p n (map whole_or_zero vs) (valid_bits vs) ≡ Some t
    → StandsFor t (column (types.primitive p n) vs)
packing-typed p n vs t few h e =
    let xs = map whole_or_zero vs in
    let bits = valid_bits vs in
    by_tests (list_any is_negative xs) (best_width_of p xs bits == bits_of p) refl refl e
  where
    made : list_any is_negative (map whole_or_zero vs) ≡ false → (best_width_of p (map whole_or_zero vs) (valid_bits vs) == bits_of p) ≡ false
        → StandsFor (packed_tree p n (map whole_or_zero vs) (valid_bits vs) (best_width_of p (map whole_or_zero vs) (valid_bits vs))) (column (types.primitive p n) vs)
    made none other =
        let xs = map whole_or_zero vs in
        let valid = valid_bits vs in
        let width = best_width_of p xs valid in
        let narrow = narrow_width p width (first_least-le (cost (widths_of p xs valid) (bytes_of p)) (bits_of p)) other in
        let w = packed_tree-well p n xs valid width (omega (arith, length-map vs whole_or_zero)) (wholes_lie_in p n vs h) (length-map vs (λ v. not (is_null v)) ∙ sym (length-map vs whole_or_zero)) (bits_allowed p n vs h) narrow in
        let typed = type-packed_of (plain_packed p width (packed_bytes p width xs valid) (length xs) (kept (Some valid)) n) (patches_of p xs (wide_rows width (map (bits_in p) xs) valid)) in
        let values = rows-packed_tree p n vs width h w none in
        (w, λ i. column (typed i) (values i))

    by_tests : (a b : Bool) → list_any is_negative (map whole_or_zero vs) ≡ a → (best_width_of p (map whole_or_zero vs) (valid_bits vs) == bits_of p) ≡ b
        → cond (a || b) None (Some (packed_tree p n (map whole_or_zero vs) (valid_bits vs) (best_width_of p (map whole_or_zero vs) (valid_bits vs)))) ≡ Some t → StandsFor t (column (types.primitive p n) vs)
    by_tests true b q r s = absurd cc
    by_tests false true q r s = absurd cc
    by_tests false false q r s = let is : packed_tree p n (map whole_or_zero vs) (valid_bits vs) (best_width_of p (map whole_or_zero vs) (valid_bits vs)) ≡ t = cc in subst (λ u. StandsFor u (column (types.primitive p n) vs)) is (made q r)

pub bit_packing-lawful : AllStandFor types.is_integer bit_packing_made
bit_packing-lawful c t i h few e =
    by_integer (λ s. list_all (fits s) c.values ≡ true → bit_packing_made (column s c.values) ≡ Some t → StandsFor t (column s c.values)) (λ p n k q. packing-typed p n c.values t few k q) c.dtype i h e
