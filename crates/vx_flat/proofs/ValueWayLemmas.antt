-- The rows of one value in the columns within its own, by the values within it, and the sums of values as the code takes them.
use Rattle.std.proofs.Common.{◌≡◌, ◌∙◌, ◌+◌, ◌*◌, ◌++◌, ℕ, zero, suc, List, [], ◌∷◌, length, map, take, get_or, ◌<◌, ◌≤◌, refl, sym, ap, arith, true, false, min, Some, None, slice_get, option_map, cond}
use Rattle.std.specs.Prelude.{replicate}
use Rattle.std.proofs.lemmas.List.{map-append, append-nil, take_more}
use Rattle.std.proofs.Math.Nat.{suc-mul, zero-mul, mul_comm}
use Rattle.vx_base.specs.Defaults.{default_of, field_defaults, null_or_default, or_default}
use Rattle.vx_base.specs.PlainType.{PlainType, PlainFields, null_type, boolean, primitive, utf8, binary, timestamp, structure, list, fixed_size_list, of_fields}
use Rattle.vx_base.specs.PlainType as types
use Rattle.vx_base.specs.PlainValue.{PlainValue, PlainValues, null, truth, int, bytes, items, is_null, of_list, list_of, items_or_empty}
use Rattle.vx_base.specs.PlainValue as vals
use Rattle.vx_base.specs.TypeOf.{value_of}
use Rattle.vx_base.specs.declared.dtype.Nullability.TheVariants.{NonNullable}
use Rattle.vx_base.specs.declared.value.Value.{Value}
use Rattle.vx_base.proofs.FieldLemmas.{type_of-Struct}
use Rattle.vx_base.proofs.WithinLemmas.{list_of-of_list}
use Rattle.vx_model.specs.Column.{column}
use Rattle.vx_model.specs.Nested.{first_within, rest_within, struct_rows, elements}
use Rattle.vx_model.specs.Rows.{row_at}
use Rattle.vx_flat.specs.Ways.{PlainWay, field, inside, nowhere, field_in, reached, count_at, type_in, field_type, items_type, items_of_null}
use Rattle.vx_flat.proofs.WayLemmas.{none_there, count_at-append, count_at-none, count_at-copies, count_at-null}

-- ---- of one value

rest-at : (r : PlainValues) (i : ℕ) → row_at (list_of (rest_within r)) i ≡ row_at (list_of r) (suc i)
rest-at vals.none i = refl
rest-at (vals.more v r) i = refl

first-at : (r : PlainValues) → first_within r ≡ row_at (list_of r) 0
first-at vals.none = refl
first-at (vals.more v r) = refl

field_in-at : (fs : PlainFields) (i : ℕ) (t : PlainType) (r : PlainValues) → type_in i fs ≡ Some t → field_in i fs (r ∷ []) ≡ column t (row_at (list_of r) i ∷ [])
field_in-at types.none i t r e = absurd cc
field_in-at (types.more name s fs) zero t r e = let same : s ≡ t = cc in λ i. column (same i) (first-at r i ∷ [])
field_in-at (types.more name s fs) (suc i) t r e = field_in-at fs i t (rest_within r) e ∙ ap (λ v. column t (v ∷ [])) (rest-at r i)

field_in-none : (fs : PlainFields) (i : ℕ) (rs : List PlainValues) → type_in i fs ≡ None → field_in i fs rs ≡ nowhere
field_in-none types.none i rs e = refl
field_in-none (types.more name s fs) zero rs e = absurd cc
field_in-none (types.more name s fs) (suc i) rs e = field_in-none fs i (map rest_within rs) e

defaults-at : (fs : PlainFields) (i : ℕ) (t : PlainType) → type_in i fs ≡ Some t → row_at (list_of (field_defaults fs)) i ≡ null_or_default t
defaults-at types.none i t e = absurd cc
defaults-at (types.more name s fs) zero t e = let same : s ≡ t = cc in ap null_or_default same
defaults-at (types.more name s fs) (suc i) t e = defaults-at fs i t e

module _ (w : PlainWay) (i : ℕ) where
  in_row : (fs : PlainFields) (t : PlainType) → type_in i fs ≡ Some t → (r : PlainValues) → length (reached w (field_in i fs (r ∷ []))).values ≡ count_at w t (row_at (list_of r) i ∷ [])
  in_row fs t e r = ap (λ c. length (reached w c).values) (field_in-at fs i t r e)

  -- of a null there are those of null
  pub count_at-field : (s t : PlainType) → field_type i s ≡ Some t → (v : PlainValue) → count_at (field i w) s (v ∷ []) ≡ count_at w t (row_at (items_or_empty v) i ∷ [])
  count_at-field (structure fs n) t e null = in_row fs t e (field_defaults fs) ∙ ap (λ v. count_at w t (v ∷ [])) (defaults-at fs i t e) ∙ count_at-null w t
  count_at-field (structure fs n) t e (truth b) = in_row fs t e vals.none
  count_at-field (structure fs n) t e (int z) = in_row fs t e vals.none
  count_at-field (structure fs n) t e (bytes bs) = in_row fs t e vals.none
  count_at-field (structure fs n) t e (items vs) = in_row fs t e vs
  count_at-field s t e v = absurd cc

  pub count_at-no_field : (s : PlainType) → field_type i s ≡ None → (v : PlainValue) → count_at (field i w) s (v ∷ []) ≡ 0
  count_at-no_field (structure fs n) e v = ap (λ c. length (reached w c).values) (field_in-none fs i (struct_rows fs (v ∷ [])) e) ∙ none_there w
  count_at-no_field null_type e v = none_there w
  count_at-no_field (boolean n) e v = none_there w
  count_at-no_field (primitive p n) e v = none_there w
  count_at-no_field (utf8 n) e v = none_there w
  count_at-no_field (binary n) e v = none_there w
  count_at-no_field (timestamp k n) e v = none_there w
  count_at-no_field (list t n) e v = none_there w
  count_at-no_field (fixed_size_list t size n) e v = none_there w

pub type_in-get : (fs : List (List ℕ × PlainType)) (i : ℕ) → type_in i (of_fields fs) ≡ option_map (λ (f : List ℕ × PlainType). f.1) (slice_get fs i)
type_in-get [] i = refl
type_in-get (f ∷ fs) zero = refl
type_in-get (f ∷ fs) (suc i) = type_in-get fs i

-- ---- counts that are cut off at the greatest number of the machine

pub nothing-least : (w : PlainWay) (most : ℕ) → 0 ≡ min (length (reached w nowhere).values) most
nothing-least w most = let none = none_there w in omega arith

pub count_at-first : (w : PlainWay) (t : PlainType) (most : ℕ) → 0 ≡ min (count_at w t []) most
count_at-first w t most = let none = count_at-none w t in omega arith

-- one value more
pub count_at-next : (w : PlainWay) (t : PlainType) (vs : List Value) (i : ℕ) (v : Value) → i < length vs → v ≡ get_or vs i v → count_at w t (map value_of (take (i + 1) vs)) ≡ count_at w t (map value_of (take i vs)) + count_at w t (value_of v ∷ [])
count_at-next w t vs i v l e =
    ap (λ ws. count_at w t (map value_of ws)) (take_more vs i v l ∙ ap (λ x. take i vs ++ x ∷ []) (sym e))
    ∙ ap (count_at w t) (map-append value_of (take i vs) (v ∷ [])) ∙ count_at-append w t (map value_of (take i vs)) (value_of v ∷ [])

-- the counts of equal items, cut off at a limit
least-copies : (n k most : ℕ) → min (n * min k most) most ≡ min (n * k) most
least-copies zero k most = let a = zero-mul (min k most) in let b = zero-mul k in omega arith
least-copies (suc n) k most =
    let a = suc-mul n (min k most) in
    let b = suc-mul n k in
    let rest = least-copies n k most in
    omega arith

-- ---- the items of one value

null-is : (v : PlainValue) → is_null v ≡ true → v ≡ null
null-is null e = refl
null-is v e = absurd cc

module _ (w : PlainWay) where
  pub count_at-no_items : (s : PlainType) → items_type s ≡ None → (v : PlainValue) → count_at (inside w) s (v ∷ []) ≡ 0
  count_at-no_items null_type e v = none_there w
  count_at-no_items (boolean n) e v = none_there w
  count_at-no_items (primitive p n) e v = none_there w
  count_at-no_items (utf8 n) e v = none_there w
  count_at-no_items (binary n) e v = none_there w
  count_at-no_items (timestamp k n) e v = none_there w
  count_at-no_items (structure fs n) e v = none_there w
  count_at-no_items s e v = absurd cc

  -- a null list of fixed size has as many null items as its size
  count_at-null_items : (s t : PlainType) → items_type s ≡ Some t → count_at (inside w) s (null ∷ []) ≡ items_of_null s * count_at w t (null ∷ [])
  count_at-null_items (list u n) t e = count_at-none w u ∙ sym (zero-mul (count_at w t (null ∷ [])))
  count_at-null_items (fixed_size_list u size n) t e =
      let same : u ≡ t = cc in
      let one = null_or_default u in
      let whole : elements (items (of_list (replicate size one)) ∷ []) ≡ replicate size one = append-nil (list_of (of_list (replicate size one))) ∙ list_of-of_list (replicate size one) in
      ap (count_at w u) whole ∙ count_at-copies w u one size ∙ ap (λ k. size * k) (count_at-null w u) ∙ ap (λ x. size * count_at w x (null ∷ [])) same
  count_at-null_items s t e = absurd cc

  pub count_at-items_of_null : (s t : PlainType) (v : PlainValue) (most : ℕ) → items_type s ≡ Some t → is_null v ≡ true → min (min (count_at w t (null ∷ [])) most * items_of_null s) most ≡ min (count_at (inside w) s (v ∷ [])) most
  count_at-items_of_null s t v most e n =
      ap (λ k. min k most) (mul_comm (min (count_at w t (null ∷ [])) most) (items_of_null s)) ∙ least-copies (items_of_null s) (count_at w t (null ∷ [])) most
      ∙ ap (λ k. min k most) (sym (ap (λ x. count_at (inside w) s (x ∷ [])) (null-is v n) ∙ count_at-null_items s t e))

  pub count_at-items : (s t : PlainType) (v : PlainValue) → items_type s ≡ Some t → is_null v ≡ false → count_at (inside w) s (v ∷ []) ≡ count_at w t (items_or_empty v)
  count_at-items (list u n) t v e some = let same : u ≡ t = cc in ap (count_at w u) (append-nil (items_or_empty v)) ∙ ap (λ x. count_at w x (items_or_empty v)) same
  count_at-items (fixed_size_list u size n) t v e some =
      let same : u ≡ t = cc in
      let kept : or_default (default_of (fixed_size_list u size NonNullable)) v ≡ v = ap (λ b. cond b (default_of (fixed_size_list u size NonNullable)) v) some in
      ap (λ x. count_at w u (elements (x ∷ []))) kept ∙ ap (count_at w u) (append-nil (items_or_empty v)) ∙ ap (λ x. count_at w x (items_or_empty v)) same
  count_at-items s t v e some = absurd cc

-- ---- values that are lent

pub value_in-at : (vs : List Value) (i : ℕ) (v : Value) → i < length vs → v ≡ get_or vs i v → value_of v ≡ row_at (map value_of vs) i
value_in-at [] i v l e = absurd (omega arith)
value_in-at (w ∷ vs) zero v l e = ap value_of e
value_in-at (w ∷ vs) (suc i) v l e = value_in-at vs i v (omega arith) e

pub value_in-none : (vs : List Value) (i : ℕ) → length vs ≤ i → null ≡ row_at (map value_of vs) i
value_in-none [] i l = refl
value_in-none (w ∷ vs) zero l = absurd (omega arith)
value_in-none (w ∷ vs) (suc i) l = value_in-none vs i (omega arith)

pub ruleset lent = (list_of-of_list, value_in-at, value_in-none)

pub ruleset ways = (nothing-least, count_at-first, type_in-get, type_of-Struct)
