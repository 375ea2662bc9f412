-- Values within values and fields within types, as lists.
use Rattle.std.proofs.Common.{◌≡◌, ◌∙◌, ℕ, suc, ℤ, Bool, true, false, List, [], ◌∷◌, length, refl, sym, ap, eq-eqb}
use Rattle.std.specs.Prelude.{◌&&◌, ◌==◌}
use Rattle.std.proofs.lemmas.Bool.{and_parts, eqb-true}
use Rattle.std.specs.List.{list_all}
use Rattle.vx_base.specs.declared.dtype.Nullability.{Nullability}
use Rattle.vx_base.specs.PlainScalar.{fits, items_fit, list_fits, field_list_fits}
use Rattle.vx_base.specs.PlainType.{PlainType, boolean, primitive, utf8, binary, timestamp, fixed_size_list, is_flat}
use Rattle.vx_base.specs.PlainValue.{PlainValue, PlainValues, null, truth, int, bytes, items, none, more, of_list, list_of, has_short, have_short, list_has_short}

-- ---- values within, as a list

pub list_of-of_list : (vs : List PlainValue) → list_of (of_list vs) ≡ vs
list_of-of_list [] = refl
list_of-of_list (v ∷ vs) = ap (λ r. v ∷ r) (list_of-of_list vs)

pub of_list-list_of : (vs : PlainValues) → of_list (list_of vs) ≡ vs
of_list-list_of none = refl
of_list-list_of (more v vs) = ap (more v) (of_list-list_of vs)

pub length-of_list : (vs : List PlainValue) → length (list_of (of_list vs)) ≡ length vs
length-of_list vs = ap length (list_of-of_list vs)

pub of_list_inj : (vs ws : List PlainValue) → of_list vs ≡ of_list ws → vs ≡ ws
of_list_inj vs ws e = sym (list_of-of_list vs) ∙ ap list_of e ∙ list_of-of_list ws

pub list_of_inj : (vs ws : PlainValues) → list_of vs ≡ list_of ws → vs ≡ ws
list_of_inj vs ws e = sym (of_list-list_of vs) ∙ ap of_list e ∙ of_list-list_of ws

pub items_inj : (vs ws : PlainValues) → items vs ≡ items ws → vs ≡ ws
items_inj vs ws e = cc

-- ---- tests of all values within

pub items_fit-all : (t : PlainType) (vs : PlainValues) → items_fit t vs ≡ list_all (fits t) (list_of vs)
items_fit-all t none = refl
items_fit-all t (more v vs) = ap (λ b. fits t v && b) (items_fit-all t vs)

pub list_fits-all : (t : PlainType) (vs : List PlainValue) → list_fits t vs ≡ list_all (fits t) vs
list_fits-all t vs = items_fit-all t (of_list vs) ∙ ap (list_all (fits t)) (list_of-of_list vs)

pub have_short-all : (vs : PlainValues) → have_short vs ≡ list_all has_short (list_of vs)
have_short-all none = refl
have_short-all (more v vs) = ap (λ b. has_short v && b) (have_short-all vs)

pub list_has_short-all : (vs : List PlainValue) → list_has_short vs ≡ list_all has_short vs
list_has_short-all vs = have_short-all (of_list vs) ∙ ap (list_all has_short) (list_of-of_list vs)

none_of : (b : Bool) → (b ≡ true → ⊥) → b ≡ false
none_of true f = absurd (f refl)
none_of false f = refl

pub eqb_none : (m n : ℕ) → (m ≡ n → ⊥) → (m == n) ≡ false
eqb_none m n h = none_of (m == n) (λ e. h (eqb-true m n e))

pub fits-fixed_size_list : (t : PlainType) (size : ℕ) (n : Nullability) (vs : List PlainValue) → fits (fixed_size_list t size n) (items (of_list vs)) ≡ (length vs == size && list_fits t vs)
fits-fixed_size_list t size n vs = ap (λ k. k == size && list_fits t vs) (length-of_list vs)

pub fits-of_length : (t : PlainType) (size : ℕ) (n : Nullability) (vs : List PlainValue) → length vs ≡ size → fits (fixed_size_list t size n) (items (of_list vs)) ≡ list_fits t vs
fits-of_length t size n vs e = fits-fixed_size_list t size n vs ∙ ap (λ b. b && list_fits t vs) (eq-eqb (length vs) size e)

pub fits-other_length : (t : PlainType) (size : ℕ) (n : Nullability) (vs : List PlainValue) → (length vs ≡ size → ⊥) → fits (fixed_size_list t size n) (items (of_list vs)) ≡ false
fits-other_length t size n vs h = fits-fixed_size_list t size n vs ∙ ap (λ b. b && list_fits t vs) (eqb_none (length vs) size h)

-- values that fit fields are as many as the fields
pub fields_fit-length : (fs : List (List ℕ × PlainType)) (vs : List PlainValue) → field_list_fits fs vs ≡ true → length fs ≡ length vs
fields_fit-length [] [] h = refl
fields_fit-length [] (v ∷ vs) h = absurd cc
fields_fit-length (f ∷ fs) [] h = absurd cc
fields_fit-length (f ∷ fs) (v ∷ vs) h = ap suc (fields_fit-length fs vs (and_parts (fits f.1 v) (field_list_fits fs vs) h).1)

pub fields_fit-other_length : (fs : List (List ℕ × PlainType)) (vs : List PlainValue) → (length fs ≡ length vs → ⊥) → field_list_fits fs vs ≡ false
fields_fit-other_length fs vs h = none_of (field_list_fits fs vs) (λ e. h (fields_fit-length fs vs e))

-- ---- values of flat types

-- no flat type has a value that holds others
pub flat-no_items : (t : PlainType) (vs : PlainValues) → is_flat t ≡ true → fits t (items vs) ≡ false
flat-no_items (boolean n) vs f = refl
flat-no_items (primitive p n) vs f = refl
flat-no_items (utf8 n) vs f = refl
flat-no_items (binary n) vs f = refl
flat-no_items (timestamp k n) vs f = refl
flat-no_items t vs f = absurd cc

-- what holds of null, truth values, integers and bytes holds of every value of a flat type
pub by_flat : (P : PlainValue → Type 0) → P null → ((b : Bool) → P (truth b)) → ((z : ℤ) → P (int z)) → ((bs : List ℕ) → P (bytes bs)) → (t : PlainType) (v : PlainValue) → is_flat t ≡ true → fits t v ≡ true → P v
by_flat P at_null at_truth at_int at_bytes t null f h = at_null
by_flat P at_null at_truth at_int at_bytes t (truth b) f h = at_truth b
by_flat P at_null at_truth at_int at_bytes t (int z) f h = at_int z
by_flat P at_null at_truth at_int at_bytes t (bytes bs) f h = at_bytes bs
by_flat P at_null at_truth at_int at_bytes t (items vs) f h = let e : false ≡ true = sym (flat-no_items t vs f) ∙ h in absurd cc

pub ruleset within = (list_of-of_list)
