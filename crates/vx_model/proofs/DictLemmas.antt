-- Codes and the values that they pick: their rows, and that a constructor's tree is well formed.
use Rattle.std.proofs.Common.{◌≡◌, ◌<◌, ◌∙◌, ℕ, zero, suc, ℤ, pos, negsuc, List, [], ◌∷◌, length, map, refl, ap, sym, arith, Bool, true, false, None}
use Rattle.std.specs.Prelude.{◌&&◌, ◌||◌, not, nat_lt}
use Rattle.std.specs.List.{list_all, list_any}
use Rattle.std.proofs.lemmas.Bool.{and_parts, and_from, lt-ltb, ltb-true}
use Rattle.std.proofs.lemmas.List.{length-map, get_or-map}
use Rattle.vx_base.specs.declared.ptype.PType.{PType}
use Rattle.vx_base.specs.declared.dtype.Nullability.{Nullability}
use Rattle.vx_base.specs.declared.dtype.Nullability.TheVariants.{NonNullable, Nullable}
use Rattle.vx_base.specs.Integers.{lies_in}
use Rattle.vx_base.specs.PlainScalar.{fits}
use Rattle.vx_base.specs.PlainType.{PlainType, allows_null, nullability_of, or_nullable}
use Rattle.vx_base.specs.PlainType as types
use Rattle.vx_base.specs.PlainValue.{PlainValue, null, int, whole_or_zero}
use Rattle.vx_base.proofs.NullLemmas.{by_null}
use Rattle.vx_base.proofs.TypeLemmas.{is_nullable-with, fits-with}
use Rattle.vx_model.specs.Tree.{Tree, dict}
use Rattle.vx_model.specs.Refusals.{dict_refusal}
use Rattle.vx_model.specs.Rows.{rows, row_at, looked_up}
use Rattle.vx_model.specs.TreeType.{tree_type, dict_type}
use Rattle.vx_model.specs.WellFormed.{WellFormed, is_place}
use Rattle.vx_model.proofs.FrameOfReferenceLemmas.{row_passes}
use Rattle.vx_model.proofs.MadeLemmas.{rows_fit}
use Rattle.vx_model.proofs.PackedLemmas.{passed}

pub length-dict : (codes values : Tree) → length (rows (dict codes values)) ≡ length (rows codes)
length-dict codes values = length-map (rows codes) (looked_up (rows values))

pub row_at-dict : (codes values : Tree) (i : ℕ) → i < length (rows codes) → row_at (rows (dict codes values)) i ≡ looked_up (rows values) (row_at (rows codes) i)
row_at-dict codes values i l = get_or-map (looked_up (rows values)) (rows codes) i null null l

pub ruleset dict_reads = (length-dict, row_at-dict)

-- ---- codes in bounds

-- a code in bounds, as a natural number
pub record IsCode (values : List PlainValue) (z : ℤ) : Type 0 where
  pub place : ℕ
  pub is : z ≡ pos place
  pub within : place < length values

pub code_is : (values : List PlainValue) (z : ℤ) → is_place (length values) (int z) ≡ true → IsCode values z
code_is values (pos k) h = record { place = k; is = refl; within = ltb-true _ _ h }
code_is values (negsuc k) h = absurd cc

pub code_at : (codes values : Tree) (i : ℕ) (z : ℤ) → WellFormed (dict codes values) → i < length (rows codes) → row_at (rows codes) i ≡ int z → IsCode (rows values) z
code_at codes values i z h l e =
    code_is (rows values) z (ap (is_place (length (rows values))) (sym e) ∙ row_passes (is_place (length (rows values))) (rows codes) i l h.2.places)

-- ---- each row fits

wider_left : (n m : Nullability) → allows_null n ≡ true → allows_null (or_nullable n m) ≡ true
wider_left NonNullable m h = absurd cc
wider_left Nullable m h = refl

wider_right : (n m : Nullability) → allows_null m ≡ true → allows_null (or_nullable n m) ≡ true
wider_right NonNullable m h = h
wider_right Nullable m h = refl

-- a null code
null_code_fits : (t u : PlainType) → fits t null ≡ true → fits (dict_type t u) null ≡ true
null_code_fits t u h = is_nullable-with u _ (wider_right (nullability_of u) (nullability_of t) h)

-- a value
value_fits : (t u : PlainType) (v : PlainValue) → fits u v ≡ true → fits (dict_type t u) v ≡ true
value_fits t u =
    by_null (λ v. fits u v ≡ true → fits (dict_type t u) v ≡ true) (λ h. is_nullable-with u _ (wider_left (nullability_of u) (nullability_of t) h))
    (λ v e h. fits-with u _ v e ∙ h)

looked_up_fits : (t u : PlainType) (vs : List PlainValue) (r : PlainValue) → list_all (fits u) vs ≡ true → is_place (length vs) r ≡ true → fits t r ≡ true → fits (dict_type t u) (looked_up vs r) ≡ true
looked_up_fits t u vs null held place h = null_code_fits t u h
looked_up_fits t u vs (int (pos k)) held place h = value_fits t u (row_at vs k) (row_passes (fits u) vs k (ltb-true _ _ place) held)
looked_up_fits t u vs v held place h = absurd cc

all_looked_up_fit : (t u : PlainType) (vs rs : List PlainValue) → list_all (fits u) vs ≡ true → list_all (is_place (length vs)) rs ≡ true → list_all (fits t) rs ≡ true → list_all (fits (dict_type t u)) (map (looked_up vs) rs) ≡ true
all_looked_up_fit t u vs [] held places h = refl
all_looked_up_fit t u vs (r ∷ rs) held places h =
    let b = and_parts _ _ h in
    let l = and_parts _ _ places in
    and_from _ _ (looked_up_fits t u vs r held l.0 b.0) (all_looked_up_fit t u vs rs held l.1 b.1)

-- ---- a constructor's tree is well formed, where nothing is refused

pub dict_accepted : (codes values : Tree) → dict_refusal codes values ≡ None → WellFormed codes → WellFormed values → WellFormed (dict codes values)
dict_accepted codes values h c v =
    let a = passed _ _ _ h in
    let b = passed _ _ _ a.1 in
    let t = and_parts _ _ a.0 in (
      c,
      v,
      record { codes_type = t.0; values_type = t.1; places = b.0 },
      all_looked_up_fit (tree_type codes) (tree_type values) (rows values) (rows codes) (rows_fit values v) b.0 (rows_fit codes c),
    )

-- ---- codes are in bounds where their integers are, with 0 beneath nulls, if there is a value

pub places-wholes : (p : PType) (n : Nullability) (len : ℕ) (rs : List PlainValue) → (len ≡ 0 → ⊥) → list_all (fits (types.primitive p n)) rs ≡ true → list_all (is_place len) rs ≡ not (list_any (λ z. not (is_place len (int z))) (map whole_or_zero rs))
places-wholes p n len [] some h = refl
places-wholes p n len (null ∷ rs) some h = let first : nat_lt 0 len ≡ true = lt-ltb _ _ (omega (arith, positive len some)) in rw (first, places-wholes p n len rs some (and_parts (fits (types.primitive p n) null) (list_all (fits (types.primitive p n)) rs) h).1) refl
  where
    positive : (n : ℕ) → (n ≡ 0 → ⊥) → 0 < n
    positive zero h = absurd (h refl)
    positive (suc n) h = omega arith
places-wholes p n len (int z ∷ rs) some h = rw (places-wholes p n len rs some (and_parts (lies_in p z) (list_all (fits (types.primitive p n)) rs) h).1) (joined (is_place len (int z)) (list_any (λ z. not (is_place len (int z))) (map whole_or_zero rs)))
  where
    joined : (b c : Bool) → (b && not c) ≡ not (not b || c)
    joined true c = refl
    joined false c = refl
places-wholes p n len (v ∷ rs) some h = absurd cc
