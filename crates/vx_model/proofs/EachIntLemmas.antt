-- Maps that take integers to integers and keep null.
use Rattle.std.proofs.Common.{◌≡◌, ◌<◌, ℕ, ℤ, pos, List, [], ◌∷◌, length, map, refl, ap, sym, true, false, Some, None}
use Rattle.std.specs.Prelude.{not}
use Rattle.std.specs.List.{list_all, list_any}
use Rattle.std.proofs.lemmas.Bool.{and_parts, and_from, cond_both}
use Rattle.std.proofs.lemmas.List.{length-map, get_or-map}
use Rattle.vx_base.specs.declared.ptype.PType.{PType}
use Rattle.vx_base.specs.declared.dtype.Nullability.{Nullability}
use Rattle.vx_base.specs.Integers.{lies_in}
use Rattle.vx_base.specs.PlainScalar.{fits}
use Rattle.vx_base.specs.PlainType as types
use Rattle.vx_base.specs.PlainValue.{PlainValue, null, int, is_null, whole_or_zero}
use Rattle.vx_model.specs.Decoded.{zeroed, zeroed_by}
use Rattle.vx_model.specs.Plain.{validity, valid_bits}
use Rattle.vx_model.specs.Rows.{row_at, each_int}

module _ (f : ℤ → ℤ) where
  pub length-each_int : (rs : List PlainValue) → length (map (each_int f) rs) ≡ length rs
  length-each_int rs = length-map rs (each_int f)

  pub row_at-each_int : (rs : List PlainValue) (i : ℕ) → i < length rs → row_at (map (each_int f) rs) i ≡ each_int f (row_at rs i)
  row_at-each_int rs i l = get_or-map (each_int f) rs i null null l

  -- ---- nulls and validity stay

  pub is_null-each_int : (v : PlainValue) → is_null (each_int f v) ≡ is_null v
  is_null-each_int null = refl
  is_null-each_int v = refl

  pub any_null-each_int : (rs : List PlainValue) → list_any is_null (map (each_int f) rs) ≡ list_any is_null rs
  any_null-each_int [] = refl
  any_null-each_int (r ∷ rs) = rw (is_null-each_int r, any_null-each_int rs) refl

  pub valid_bits-each_int : (rs : List PlainValue) → valid_bits (map (each_int f) rs) ≡ valid_bits rs
  valid_bits-each_int [] = refl
  valid_bits-each_int (r ∷ rs) = λ i. not (is_null-each_int r i) ∷ valid_bits-each_int rs i

  pub validity-each_int : (rs : List PlainValue) → validity (map (each_int f) rs) ≡ validity rs
  validity-each_int rs = rw (any_null-each_int rs, valid_bits-each_int rs) refl

  -- ---- whole numbers with 0 beneath nulls

  wholes_bits : (rs : List PlainValue) → map whole_or_zero (map (each_int f) rs) ≡ zeroed (pos 0) (valid_bits rs) (map f (map whole_or_zero rs))
  wholes_bits [] = refl
  wholes_bits (null ∷ rs) = ap (λ xs. pos 0 ∷ xs) (wholes_bits rs)
  wholes_bits (v ∷ rs) = ap (λ xs. f (whole_or_zero v) ∷ xs) (wholes_bits rs)

  wholes_all : (rs : List PlainValue) → list_any is_null rs ≡ false → map whole_or_zero (map (each_int f) rs) ≡ map f (map whole_or_zero rs)
  wholes_all [] e = refl
  wholes_all (null ∷ rs) e = absurd cc
  wholes_all (v ∷ rs) e = ap (λ xs. f (whole_or_zero v) ∷ xs) (wholes_all rs e)

  pub wholes-each_int : (rs : List PlainValue) → map whole_or_zero (map (each_int f) rs) ≡ zeroed_by (pos 0) (validity rs) (map f (map whole_or_zero rs))
  wholes-each_int rs =
      cond_both (list_any is_null rs) (Some (valid_bits rs)) None (λ valid. map whole_or_zero (map (each_int f) rs) ≡ zeroed_by (pos 0) valid (map f (map whole_or_zero rs)))
      (λ some. wholes_bits rs) (λ none. wholes_all rs none)

  -- a function that keeps 0 needs no mask
  pub wholes-each_int-zero : f (pos 0) ≡ pos 0 → (rs : List PlainValue) → map whole_or_zero (map (each_int f) rs) ≡ map f (map whole_or_zero rs)
  wholes-each_int-zero keeps [] = refl
  wholes-each_int-zero keeps (null ∷ rs) = let start = sym keeps in λ i. start i ∷ wholes-each_int-zero keeps rs i
  wholes-each_int-zero keeps (v ∷ rs) = ap (λ xs. f (whole_or_zero v) ∷ xs) (wholes-each_int-zero keeps rs)

  -- ---- types

  pub all_fit-each_int : (p q : PType) (n : Nullability) → ((z : ℤ) → lies_in p z ≡ true → lies_in q (f z) ≡ true) → (rs : List PlainValue) → list_all (fits (types.primitive p n)) rs ≡ true
      → list_all (fits (types.primitive q n)) (map (each_int f) rs) ≡ true
  all_fit-each_int p q n keeps [] h = refl
  all_fit-each_int p q n keeps (null ∷ rs) h = let b = and_parts (types.allows_null n) (list_all (fits (types.primitive p n)) rs) h in and_from _ _ b.0 (all_fit-each_int p q n keeps rs b.1)
  all_fit-each_int p q n keeps (int z ∷ rs) h = let b = and_parts (lies_in p z) (list_all (fits (types.primitive p n)) rs) h in and_from _ _ (keeps z b.0) (all_fit-each_int p q n keeps rs b.1)
  all_fit-each_int p q n keeps (v ∷ rs) h = absurd cc

  -- a left inverse
  pub each_int-back : (g : ℤ → ℤ) (p : PType) (n : Nullability) → ((z : ℤ) → lies_in p z ≡ true → g (f z) ≡ z) → (rs : List PlainValue) → list_all (fits (types.primitive p n)) rs ≡ true
      → map (each_int g) (map (each_int f) rs) ≡ rs
  each_int-back g p n back [] h = refl
  each_int-back g p n back (null ∷ rs) h = let b = and_parts (types.allows_null n) (list_all (fits (types.primitive p n)) rs) h in ap (λ vs. null ∷ vs) (each_int-back g p n back rs b.1)
  each_int-back g p n back (int z ∷ rs) h =
      let b = and_parts (lies_in p z) (list_all (fits (types.primitive p n)) rs) h in
      let here = back z b.0 in
      let rest = each_int-back g p n back rs b.1 in
      λ i. int (here i) ∷ rest i
  each_int-back g p n back (v ∷ rs) h = absurd cc
