-- The columns within columns of structs or lists: their values are of the types within, and their number is right.
use Rattle.std.proofs.Common.{◌≡◌, ◌∙◌, ◌*◌, ◌++◌, ℕ, List, [], ◌∷◌, length, map, take, drop, refl, sym, ap, arith, Bool, true}
use Rattle.std.specs.Prelude.{◌==◌, replicate}
use Rattle.std.specs.List.{list_all}
use Rattle.std.proofs.Math.Nat.{suc-mul, zero-mul}
use Rattle.std.proofs.Math.Seq.{take-append_seam, drop-append_seam}
use Rattle.std.proofs.lemmas.Bool.{and_parts, and_from, eqb-true}
use Rattle.std.proofs.lemmas.List.{length-append, length-map}
use Rattle.std.proofs.lemmas.List.Folds.{list_all-append, list_all-map}
use Rattle.vx_base.specs.declared.dtype.Nullability.{Nullability}
use Rattle.vx_base.specs.declared.dtype.Nullability.TheVariants.{NonNullable}
use Rattle.vx_base.specs.Defaults.{default_of, field_defaults, null_or_default, or_default}
use Rattle.vx_base.specs.PlainScalar.{fits, fields_fit, items_fit}
use Rattle.vx_base.specs.PlainType.{PlainType, PlainFields, structure, list, fixed_size_list}
use Rattle.vx_base.specs.PlainType as types
use Rattle.vx_base.specs.PlainValue.{PlainValue, PlainValues, null, items, of_list, list_of, items_or_empty}
use Rattle.vx_base.specs.PlainValue as vals
use Rattle.vx_base.proofs.FitLemmas.{fits-default_of, fields_fit-field_defaults}
use Rattle.vx_base.proofs.WithinLemmas.{items_fit-all}
use Rattle.vx_model.specs.Nested.{within, first_within, rest_within, struct_rows, concatenated, list_rows, elements, fixed_rows, fixed_elements}
use Rattle.vx_model.specs.Rows.{parts_of, each_before}

-- a map from what passes one test to what passes another
mapped : {A B : Type 0} (p : A → Bool) (q : B → Bool) (f : A → B) → ((x : A) → p x ≡ true → q (f x) ≡ true) → (xs : List A) → list_all p xs ≡ true → list_all q (map f xs) ≡ true
mapped p q f each [] h = refl
mapped p q f each (x ∷ xs) h = let b = and_parts (p x) (list_all p xs) h in and_from _ _ (each x b.0) (mapped p q f each xs b.1)

-- ---- structs

-- the fields of a null are those of the default
fields-fit : (fs : PlainFields) (n : Nullability) (v : PlainValue) → fits (structure fs n) v ≡ true → fields_fit fs (within (or_default (items (field_defaults fs)) v)) ≡ true
fields-fit fs n null h = fields_fit-field_defaults fs
fields-fit fs n (items vs) h = h
fields-fit fs n v h = absurd cc

pub struct_rows-fit : (fs : PlainFields) (n : Nullability) (vs : List PlainValue) → list_all (fits (structure fs n)) vs ≡ true → list_all (fields_fit fs) (struct_rows fs vs) ≡ true
struct_rows-fit fs n = mapped (fits (structure fs n)) (fields_fit fs) (λ v. within (or_default (items (field_defaults fs)) v)) (fields-fit fs n)

pub length-struct_rows : (fs : PlainFields) (vs : List PlainValue) → length (struct_rows fs vs) ≡ length vs
length-struct_rows fs vs = length-map vs _

module _ (name : List ℕ) (t : PlainType) (fs : PlainFields) where
  first-fits : (r : PlainValues) → fields_fit (types.more name t fs) r ≡ true → fits t (first_within r) ≡ true
  first-fits vals.none h = absurd cc
  first-fits (vals.more v r) h = (and_parts (fits t v) (fields_fit fs r) h).0

  rest-fits : (r : PlainValues) → fields_fit (types.more name t fs) r ≡ true → fields_fit fs (rest_within r) ≡ true
  rest-fits vals.none h = absurd cc
  rest-fits (vals.more v r) h = (and_parts (fits t v) (fields_fit fs r) h).1

  -- the first field's column
  pub firsts-fit : (rs : List PlainValues) → list_all (fields_fit (types.more name t fs)) rs ≡ true → list_all (fits t) (map first_within rs) ≡ true
  firsts-fit = mapped (fields_fit (types.more name t fs)) (fits t) first_within first-fits

  -- the others
  pub rests-fit : (rs : List PlainValues) → list_all (fields_fit (types.more name t fs)) rs ≡ true → list_all (fields_fit fs) (map rest_within rs) ≡ true
  rests-fit = mapped (fields_fit (types.more name t fs)) (fields_fit fs) rest_within rest-fits

  -- put together they are the rows again
  pub each_before-back : (rs : List PlainValues) → list_all (fields_fit (types.more name t fs)) rs ≡ true → each_before (map first_within rs) (map rest_within rs) ≡ rs
  each_before-back [] h = refl
  each_before-back (vals.none ∷ rs) h = absurd cc
  each_before-back (vals.more v r ∷ rs) h = ap (λ others. vals.more v r ∷ others) (each_before-back rs (and_parts _ (list_all (fields_fit (types.more name t fs)) rs) h).1)

-- a row of no fields is empty
pub no_fields : (rs : List PlainValues) → list_all (fields_fit types.none) rs ≡ true → replicate (length rs) vals.none ≡ rs
no_fields [] h = refl
no_fields (vals.none ∷ rs) h = ap (λ others. vals.none ∷ others) (no_fields rs h)
no_fields (vals.more v r ∷ rs) h = absurd cc

-- ---- lists

module _ {A : Type 0} (p : A → Bool) where
  concatenated-passes : (rows : List (List A)) → list_all (list_all p) rows ≡ true → list_all p (concatenated rows) ≡ true
  concatenated-passes [] h = refl
  concatenated-passes (row ∷ rows) h = let b = and_parts (list_all p row) (list_all (list_all p) rows) h in list_all-append p row (concatenated rows) ∙ and_from _ _ b.0 (concatenated-passes rows b.1)

items-fit : (t : PlainType) (n : Nullability) (v : PlainValue) → fits (list t n) v ≡ true → list_all (fits t) (items_or_empty v) ≡ true
items-fit t n null h = refl
items-fit t n (items vs) h = sym (items_fit-all t vs) ∙ h
items-fit t n v h = absurd cc

pub elements-fit : (t : PlainType) (n : Nullability) (vs : List PlainValue) → list_all (fits (list t n)) vs ≡ true → list_all (fits t) (elements vs) ≡ true
elements-fit t n vs h = concatenated-passes (fits t) (list_rows vs) (mapped (fits (list t n)) (list_all (fits t)) items_or_empty (items-fit t n) vs h)

-- ---- lists of fixed size

module _ (t : PlainType) (size : ℕ) (n : Nullability) where
  abbrev own : PlainType
  own = fixed_size_list t size NonNullable

  sized_items : (vs : PlainValues) → fits own (items vs) ≡ true → (length (list_of vs) == size ≡ true) × (list_all (fits t) (list_of vs) ≡ true)
  sized_items vs h = let b = and_parts (length (list_of vs) == size) (items_fit t vs) h in (b.0, sym (items_fit-all t vs) ∙ b.1)

  -- the items of a null are those of the default
  sized_row : (v : PlainValue) → fits (fixed_size_list t size n) v ≡ true
      → (length (items_or_empty (or_default (default_of own) v)) == size ≡ true) × (list_all (fits t) (items_or_empty (or_default (default_of own) v)) ≡ true)
  sized_row null h = sized_items (of_list (replicate size (null_or_default t))) (fits-default_of own)
  sized_row (items vs) h = sized_items vs h
  sized_row v h = absurd cc

  pub fixed_rows-sized : (vs : List PlainValue) → list_all (fits (fixed_size_list t size n)) vs ≡ true → list_all (λ row. length row == size) (list_rows (fixed_rows t size vs)) ≡ true
  fixed_rows-sized vs h =
      list_all-map (λ row. length row == size) items_or_empty (fixed_rows t size vs)
      ∙ mapped (fits (fixed_size_list t size n)) (λ v. length (items_or_empty v) == size) (or_default (default_of own)) (λ v k. (sized_row v k).0) vs h

  pub fixed_elements-fit : (vs : List PlainValue) → list_all (fits (fixed_size_list t size n)) vs ≡ true → list_all (fits t) (fixed_elements t size vs) ≡ true
  fixed_elements-fit vs h =
      concatenated-passes (fits t) (list_rows (fixed_rows t size vs))
      (list_all-map (list_all (fits t)) items_or_empty (fixed_rows t size vs)
      ∙ mapped (fits (fixed_size_list t size n)) (λ v. list_all (fits t) (items_or_empty v)) (or_default (default_of own)) (λ v k. (sized_row v k).1) vs h)

pub length-fixed_rows : (t : PlainType) (size : ℕ) (vs : List PlainValue) → length (list_rows (fixed_rows t size vs)) ≡ length vs
length-fixed_rows t size vs = length-map (fixed_rows t size vs) items_or_empty ∙ length-map vs _

-- rows of one size, concatenated
pub length-concatenated : {A : Type 0} (size : ℕ) (rows : List (List A)) → list_all (λ row. length row == size) rows ≡ true → length (concatenated rows) ≡ length rows * size
length-concatenated size [] h = sym (zero-mul size)
length-concatenated size (row ∷ rows) h =
    let b = and_parts (length row == size) (list_all (λ r. length r == size) rows) h in
    let own = eqb-true (length row) size b.0 in
    let rest = length-concatenated size rows b.1 in
    let both = suc-mul (length rows) size in
    omega (arith, length-append row (concatenated rows))

-- and cut again
pub parts_of-concatenated : {A : Type 0} (size : ℕ) (rows : List (List A)) → list_all (λ row. length row == size) rows ≡ true → parts_of size (length rows) (concatenated rows) ≡ rows
parts_of-concatenated size [] h = refl
parts_of-concatenated size (row ∷ rows) h =
    let b = and_parts (length row == size) (list_all (λ r. length r == size) rows) h in
    let own = sym (eqb-true (length row) size b.0) in
    (λ i. take (own i) (row ++ concatenated rows) ∷ parts_of size (length rows) (drop (own i) (row ++ concatenated rows)))
    ∙ (λ i. take-append_seam row (concatenated rows) i ∷ parts_of size (length rows) (drop-append_seam row (concatenated rows) i))
    ∙ ap (λ others. row ∷ others) (parts_of-concatenated size rows b.1)
