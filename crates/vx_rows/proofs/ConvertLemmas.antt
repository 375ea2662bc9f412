-- Integers in another type, and with a fill in place of nulls.
use Rattle.std.proofs.Common.{◌≡◌, ◌∙◌, ◌<◌, ◌+◌, ℕ, zero, suc, ℤ, pos, Bool, true, false, cond, List, [], ◌∷◌, map, take, length, get_or, Some, None, refl, sym, ap, arith, add-one}
use Rattle.std.specs.Prelude.{◌&&◌, ◌||◌, not}
use Rattle.std.specs.List.{list_all}
use Rattle.std.proofs.lemmas.Bool.{and_parts, eqb-true}
use Rattle.vx_base.specs.declared.dtype.Nullability.{Nullability}
use Rattle.vx_base.specs.declared.dtype.Nullability.TheVariants.{NonNullable, Nullable}
use Rattle.vx_base.specs.declared.ptype.PType.{PType}
use Rattle.vx_base.specs.Defaults.{or_default}
use Rattle.vx_base.specs.Integers.{lies_in}
use Rattle.vx_base.specs.PlainScalar.{fits}
use Rattle.vx_base.specs.PlainType as types
use Rattle.vx_base.specs.PlainValue.{int, null}
use Rattle.vx_model.specs.Decoded.{zeroed, zeroed_by}
use Rattle.vx_model.specs.Refusals.{validity_allowed, validity_length}
use Rattle.vx_model.specs.Rows.{masked_rows, valid_rows}
use Rattle.vx_model.specs.Tree.{Validity}
use Rattle.vx_rows.specs.Conversions.{all_valid_in, masked_in, whole_or_zero_in}

-- ---- numbers that a type holds stay

module _ (p : PType) where
  held-same : (z : ℤ) → lies_in p z ≡ true → whole_or_zero_in p z ≡ z
  held-same z h = ap (λ b. cond b z (pos 0)) h

  all-same : (zs : List ℤ) → list_all (lies_in p) zs ≡ true → map (whole_or_zero_in p) zs ≡ zs
  all-same [] h = refl
  all-same (z ∷ zs) h = let b = and_parts (lies_in p z) (list_all (lies_in p) zs) h in λ i. held-same z b.0 i ∷ all-same zs b.1 i

  masked-same : (bits : List Bool) (zs : List ℤ) → masked_in p bits zs ≡ true → masked_rows bits (map int (map (whole_or_zero_in p) zs)) ≡ masked_rows bits (map int zs)
  masked-same [] zs h = refl
  masked-same (b ∷ bits) [] h = refl
  masked-same (true ∷ bits) (z ∷ zs) h = let b = and_parts (lies_in p z) (masked_in p bits zs) h in λ i. int (held-same z b.0 i) ∷ masked-same bits zs b.1 i
  masked-same (false ∷ bits) (z ∷ zs) h = ap (λ vs. null ∷ vs) (masked-same bits zs h)

  pub converted-rows : (valid : Validity) (zs : List ℤ) → all_valid_in p valid zs ≡ true → valid_rows valid (map int (map (whole_or_zero_in p) zs)) ≡ valid_rows valid (map int zs)
  converted-rows None zs h = ap (map int) (all-same zs h)
  converted-rows (Some bits) zs h = masked-same bits zs h

  -- ---- rows are of the type exactly where it holds the valid numbers and admits the nulls

  fit-all : (n : Nullability) (zs : List ℤ) → list_all (fits (types.primitive p n)) (map int zs) ≡ list_all (lies_in p) zs
  fit-all n [] = refl
  fit-all n (z ∷ zs) = ap (λ b. lies_in p z && b) (fit-all n zs)

  fit-nullable : (bits : List Bool) (zs : List ℤ) → list_all (fits (types.primitive p Nullable)) (masked_rows bits (map int zs)) ≡ masked_in p bits zs
  fit-nullable [] zs = refl
  fit-nullable (b ∷ bits) [] = refl
  fit-nullable (true ∷ bits) (z ∷ zs) = ap (λ b. lies_in p z && b) (fit-nullable bits zs)
  fit-nullable (false ∷ bits) (z ∷ zs) = fit-nullable bits zs

  fit-other : (bits : List Bool) (zs : List ℤ) → length bits ≡ length zs → list_all (fits (types.primitive p NonNullable)) (masked_rows bits (map int zs)) ≡ (list_all (λ bit. bit) bits && masked_in p bits zs)
  fit-other [] zs e = refl
  fit-other (b ∷ bits) [] e = absurd (omega arith)
  fit-other (false ∷ bits) (z ∷ zs) e = refl
  fit-other (true ∷ bits) (z ∷ zs) e = ap (λ b. lies_in p z && b) (fit-other bits zs (omega arith)) ∙ swapped (lies_in p z) (list_all (λ bit. bit) bits) (masked_in p bits zs)
    where
      swapped : (x y w : Bool) → (x && (y && w)) ≡ (y && (x && w))
      swapped true y w = refl
      swapped false true w = refl
      swapped false false w = refl

  pub fit-rows : (valid : Validity) (n : Nullability) (zs : List ℤ) → validity_length valid (length zs) ≡ true → list_all (fits (types.primitive p n)) (valid_rows valid (map int zs)) ≡ (validity_allowed valid n && all_valid_in p valid zs)
  fit-rows None n zs h = fit-all n zs
  fit-rows (Some bits) Nullable zs h = fit-nullable bits zs
  fit-rows (Some bits) NonNullable zs h = fit-other bits zs (eqb-true (length bits) (length zs) h)

  -- the same by one test after the other
  pub rows-held : (valid : Validity) (n : Nullability) (zs : List ℤ) → validity_length valid (length zs) ≡ true → validity_allowed valid n ≡ true → all_valid_in p valid zs ≡ list_all (fits (types.primitive p n)) (valid_rows valid (map int zs))
  rows-held valid n zs h a = sym (fit-rows valid n zs h ∙ ap (λ b. b && all_valid_in p valid zs) a)

  pub rows-unheld : (valid : Validity) (n : Nullability) (zs : List ℤ) → validity_length valid (length zs) ≡ true → validity_allowed valid n ≡ false → false ≡ list_all (fits (types.primitive p n)) (valid_rows valid (map int zs))
  rows-unheld valid n zs h a = sym (fit-rows valid n zs h ∙ ap (λ b. b && all_valid_in p valid zs) a)

  -- one number further
  masked-next : (bits : List Bool) (zs : List ℤ) (i : ℕ) (z : ℤ) → i < length bits → i < length zs → z ≡ get_or zs i (pos 0)
      → masked_in p (take (suc i) bits) (take (suc i) zs) ≡ (masked_in p (take i bits) (take i zs) && (not (get_or bits i false) || lies_in p z))
  masked-next [] zs i z h k e = absurd (omega arith)
  masked-next (b ∷ bits) [] i z h k e = absurd (omega arith)
  masked-next (b ∷ bits) (y ∷ zs) zero z h k e = and-true (not b || lies_in p y) ∙ ap (λ x. not b || lies_in p x) (sym e)
    where
      and-true : (x : Bool) → (x && true) ≡ x
      and-true true = refl
      and-true false = refl
  masked-next (b ∷ bits) (y ∷ zs) (suc i) z h k e =
      ap (λ x. (not b || lies_in p y) && x) (masked-next bits zs i z (omega arith) (omega arith) e) ∙ sym (and-assoc (not b || lies_in p y) (masked_in p (take i bits) (take i zs)) _)
    where
      and-assoc : (x y w : Bool) → ((x && y) && w) ≡ (x && (y && w))
      and-assoc true y w = refl
      and-assoc false y w = refl

  pub masked-more : (bits : List Bool) (zs : List ℤ) (i : ℕ) (z : ℤ) → i < length bits → i < length zs → z ≡ get_or zs i (pos 0)
      → masked_in p (take (i + 1) bits) (take (i + 1) zs) ≡ (masked_in p (take i bits) (take i zs) && (not (get_or bits i false) || lies_in p z))
  masked-more bits zs i z h k e = rw (add-one i) (masked-next bits zs i z h k e)

-- ---- a fill in place of nulls

filled-items : (fill : ℤ) (zs : List ℤ) → map (or_default (int fill)) (map int zs) ≡ map int zs
filled-items fill [] = refl
filled-items fill (z ∷ zs) = ap (λ vs. int z ∷ vs) (filled-items fill zs)

filled-masked : (fill : ℤ) (bits : List Bool) (zs : List ℤ) → length bits ≡ length zs → map (or_default (int fill)) (masked_rows bits (map int zs)) ≡ map int (zeroed fill bits zs)
filled-masked fill [] [] e = refl
filled-masked fill [] (z ∷ zs) e = absurd (omega arith)
filled-masked fill (b ∷ bits) [] e = absurd (omega arith)
filled-masked fill (true ∷ bits) (z ∷ zs) e = ap (λ vs. int z ∷ vs) (filled-masked fill bits zs (omega arith))
filled-masked fill (false ∷ bits) (z ∷ zs) e = ap (λ vs. int fill ∷ vs) (filled-masked fill bits zs (omega arith))

pub filled-rows : (fill : ℤ) (valid : Validity) (zs : List ℤ) → validity_length valid (length zs) ≡ true → map (or_default (int fill)) (valid_rows valid (map int zs)) ≡ map int (zeroed_by fill valid zs)
filled-rows fill None zs h = filled-items fill zs
filled-rows fill (Some bits) zs h = filled-masked fill bits zs (eqb-true (length bits) (length zs) h)
