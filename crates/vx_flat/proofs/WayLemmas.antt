-- The rows of the columns within a column: those of joined columns are the sums, and null has as many as the default.
use Rattle.std.proofs.Common.{◌≡◌, ◌∙◌, ◌+◌, ◌*◌, ◌++◌, ℕ, zero, suc, List, [], ◌∷◌, length, map, refl, sym, ap, arith}
use Rattle.std.specs.Prelude.{replicate}
use Rattle.std.proofs.lemmas.Bool.{cond_both}
use Rattle.std.proofs.lemmas.List.{map-append, length-append}
use Rattle.std.proofs.Math.Nat.{suc-mul, zero-mul}
use Rattle.vx_base.specs.Defaults.{default_of, field_defaults, null_or_default, or_default}
use Rattle.vx_base.specs.PlainType.{PlainType, PlainFields, null_type, boolean, primitive, utf8, binary, timestamp, structure, list, fixed_size_list, is_nullable}
use Rattle.vx_base.specs.PlainType as types
use Rattle.vx_base.specs.PlainValue.{PlainValue, PlainValues, null, items}
use Rattle.vx_model.specs.Column.{Column}
use Rattle.vx_model.specs.Nested.{within, first_within, rest_within, struct_rows, elements, fixed_rows, fixed_elements}
use Rattle.vx_model.proofs.CountLemmas.{elements-append}
use Rattle.vx_flat.specs.Ways.{PlainWay, here, field, inside, nowhere, field_in, field_column, items_column, reached, count_at, turned, column_at}

pub reached-turned : (a w : PlainWay) (c : Column) → reached (turned a w) c ≡ reached w (column_at a c)
reached-turned here w c = refl
reached-turned (field i a) w c = reached-turned a (field i w) c
reached-turned (inside a) w c = reached-turned a (inside w) c

pub reached-nowhere : (w : PlainWay) → reached w nowhere ≡ nowhere
reached-nowhere here = refl
reached-nowhere (field i w) = reached-nowhere w
reached-nowhere (inside w) = reached-nowhere w

pub none_there : (w : PlainWay) → length (reached w nowhere).values ≡ 0
none_there w = ap (λ c. length c.values) (reached-nowhere w)

-- ---- joined columns

module _ (w : PlainWay) (each : (t : PlainType) (vs ws : List PlainValue) → count_at w t (vs ++ ws) ≡ count_at w t vs + count_at w t ws) where
  field_in-append : (i : ℕ) (fs : PlainFields) (rs qs : List PlainValues)
      → length (reached w (field_in i fs (rs ++ qs))).values ≡ length (reached w (field_in i fs rs)).values + length (reached w (field_in i fs qs)).values
  field_in-append i types.none rs qs = let none = none_there w in omega arith
  field_in-append zero (types.more name t fs) rs qs = ap (count_at w t) (map-append first_within rs qs) ∙ each t (map first_within rs) (map first_within qs)
  field_in-append (suc i) (types.more name t fs) rs qs =
      ap (λ rows. length (reached w (field_in i fs rows)).values) (map-append rest_within rs qs) ∙ field_in-append i fs (map rest_within rs) (map rest_within qs)

  nothing : length (reached w nowhere).values ≡ length (reached w nowhere).values + length (reached w nowhere).values
  nothing = let none = none_there w in omega arith

  field_column-append : (i : ℕ) (t : PlainType) (vs ws : List PlainValue)
      → length (reached w (field_column i t (vs ++ ws))).values ≡ length (reached w (field_column i t vs)).values + length (reached w (field_column i t ws)).values
  field_column-append i (structure fs n) vs ws =
      ap (λ rows. length (reached w (field_in i fs rows)).values) (map-append (λ v. within (or_default (items (field_defaults fs)) v)) vs ws)
      ∙ field_in-append i fs (struct_rows fs vs) (struct_rows fs ws)
  field_column-append i null_type vs ws = nothing
  field_column-append i (boolean n) vs ws = nothing
  field_column-append i (primitive p n) vs ws = nothing
  field_column-append i (utf8 n) vs ws = nothing
  field_column-append i (binary n) vs ws = nothing
  field_column-append i (timestamp k n) vs ws = nothing
  field_column-append i (list t n) vs ws = nothing
  field_column-append i (fixed_size_list t size n) vs ws = nothing

  items_column-append : (t : PlainType) (vs ws : List PlainValue)
      → length (reached w (items_column t (vs ++ ws))).values ≡ length (reached w (items_column t vs)).values + length (reached w (items_column t ws)).values
  items_column-append (list t n) vs ws = ap (count_at w t) (elements-append vs ws) ∙ each t (elements vs) (elements ws)
  items_column-append (fixed_size_list t size n) vs ws =
      ap (λ rs. count_at w t (elements rs)) (map-append _ vs ws) ∙ ap (count_at w t) (elements-append (fixed_rows t size vs) (fixed_rows t size ws)) ∙ each t (fixed_elements t size vs) (fixed_elements t size ws)
  items_column-append null_type vs ws = nothing
  items_column-append (boolean n) vs ws = nothing
  items_column-append (primitive p n) vs ws = nothing
  items_column-append (utf8 n) vs ws = nothing
  items_column-append (binary n) vs ws = nothing
  items_column-append (timestamp k n) vs ws = nothing
  items_column-append (structure fs n) vs ws = nothing

pub count_at-append : (w : PlainWay) (t : PlainType) (vs ws : List PlainValue) → count_at w t (vs ++ ws) ≡ count_at w t vs + count_at w t ws
count_at-append here t vs ws = length-append vs ws
count_at-append (field i w) t vs ws = field_column-append w (count_at-append w) i t vs ws
count_at-append (inside w) t vs ws = items_column-append w (count_at-append w) t vs ws

pub count_at-none : (w : PlainWay) (t : PlainType) → count_at w t [] ≡ 0
count_at-none w t = let twice = count_at-append w t [] [] in omega arith

pub count_at-copies : (w : PlainWay) (t : PlainType) (v : PlainValue) (n : ℕ) → count_at w t (replicate n v) ≡ n * count_at w t (v ∷ [])
count_at-copies w t v zero = count_at-none w t ∙ sym (zero-mul (count_at w t (v ∷ [])))
count_at-copies w t v (suc n) =
    let both = suc-mul n (count_at w t (v ∷ [])) in
    let rest = count_at-copies w t v n in
    omega (arith, count_at-append w t (v ∷ []) (replicate n v))

-- ---- null has as many rows within as the default

count_at-default : (w : PlainWay) (t : PlainType) → count_at w t (default_of t ∷ []) ≡ count_at w t (null ∷ [])
count_at-default here t = refl
count_at-default (field i w) null_type = refl
count_at-default (field i w) (boolean n) = refl
count_at-default (field i w) (primitive p n) = refl
count_at-default (field i w) (utf8 n) = refl
count_at-default (field i w) (binary n) = refl
count_at-default (field i w) (timestamp k n) = refl
count_at-default (field i w) (structure fs n) = refl
count_at-default (field i w) (list t n) = refl
count_at-default (field i w) (fixed_size_list t size n) = refl
count_at-default (inside w) null_type = refl
count_at-default (inside w) (boolean n) = refl
count_at-default (inside w) (primitive p n) = refl
count_at-default (inside w) (utf8 n) = refl
count_at-default (inside w) (binary n) = refl
count_at-default (inside w) (timestamp k n) = refl
count_at-default (inside w) (structure fs n) = refl
count_at-default (inside w) (list t n) = refl
count_at-default (inside w) (fixed_size_list t size n) = refl

pub count_at-null : (w : PlainWay) (t : PlainType) → count_at w t (null_or_default t ∷ []) ≡ count_at w t (null ∷ [])
count_at-null w t = cond_both (is_nullable t) null (default_of t) (λ v. count_at w t (v ∷ []) ≡ count_at w t (null ∷ [])) (λ e. refl) (λ e. count_at-default w t)
