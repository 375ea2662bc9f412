-- When the counts of a column and of those within are few: by the fields' columns and the items', one after the other.
use Rattle.std.proofs.Common.{◌≡◌, ◌∙◌, ◌+◌, ◌*◌, ◌^◌, ◌-◌, ℕ, zero, suc, List, [], ◌∷◌, length, map, drop, get_or, ◌<◌, refl, sym, ap, arith, add-one, Bool, true, false, min, Some, slice_get, option_map}
use Rattle.std.specs.Prelude.{nat_le, ◌&&◌}
use Rattle.std.proofs.lemmas.Bool.{leb-true}
use Rattle.std.proofs.lemmas.Bool.Decides.{nat_tests}
use Rattle.std.proofs.lemmas.List.{length-map, drop_more}
use Rattle.std.proofs.lemmas.List.Folds.{list_all-append}
use Rattle.std.proofs.Math.Nat.{suc-mul, zero-mul}
use Rattle.vx_base.specs.PlainType.{PlainType, PlainFields, null_type, boolean, primitive, utf8, binary, timestamp, structure, list, fixed_size_list, of_fields, nullability_of}
use Rattle.vx_base.specs.PlainType as types
use Rattle.vx_base.specs.PlainValue.{PlainValue, PlainValues}
use Rattle.vx_base.specs.TypeOf.{type_of, field_of}
use Rattle.vx_base.specs.declared.dtype.DType.{DType}
use Rattle.vx_model.specs.Column.{Column, column}
use Rattle.vx_model.specs.Extents.{counts, field_counts, row_limit}
use Rattle.vx_model.specs.Nested.{first_within, rest_within, struct_rows}
use Rattle.vx_flat.specs.declared.counting.Way.{Way}
use Rattle.vx_flat.specs.declared.counting.Way.TheVariants.{Here}
use denote.Bor.{Bor}
use Rattle.vx_flat.specs.declared.counting.Way.TheViews.{rolls-Here, Field, rolls-Field, Items, rolls-Items}
use Rattle.vx_flat.specs.declared.counting.Way.TheOpen.{Way-F}
use Rattle.vx_flat.specs.declared.counting.Way.TheFolds.{fold-roll-Way}
use Rattle.vx_flat.specs.Ways.{PlainWay, way_of, way_step, here, field, inside, field_in, field_column, count_at, turned, column_at, inner_counts, are_few, type_in}
use Rattle.vx_flat.proofs.WayLemmas.{reached-turned}
use Rattle.vx_flat.proofs.ValueWayLemmas.{type_in-get}

pub counts-inner : (t : PlainType) (vs : List PlainValue) → counts t vs ≡ length vs ∷ inner_counts t vs
counts-inner null_type vs = refl
counts-inner (boolean n) vs = refl
counts-inner (primitive p n) vs = refl
counts-inner (utf8 n) vs = refl
counts-inner (binary n) vs = refl
counts-inner (timestamp k n) vs = refl
counts-inner (structure fs n) vs = refl
counts-inner (list t n) vs = refl
counts-inner (fixed_size_list t size n) vs = refl

-- a way told from its end leads to the same column

-- ---- the fields' columns, one after the other

-- rows without their first fields
abbrev pub behind : ℕ → List PlainValues → List PlainValues
behind zero rows = rows
behind (suc i) rows = behind i (map rest_within rows)

length-behind : (i : ℕ) (rows : List PlainValues) → length (behind i rows) ≡ length rows
length-behind zero rows = refl
length-behind (suc i) rows = length-behind i (map rest_within rows) ∙ length-map rows rest_within

behind-more : (i : ℕ) (rows : List PlainValues) → behind (suc i) rows ≡ map rest_within (behind i rows)
behind-more zero rows = refl
behind-more (suc i) rows = behind-more i (map rest_within rows)

-- the column of a field
field_in-behind : (fs : PlainFields) (i : ℕ) (t : PlainType) (rows : List PlainValues) → type_in i fs ≡ Some t → field_in i fs rows ≡ column t (map first_within (behind i rows))
field_in-behind types.none i t rows e = absurd cc
field_in-behind (types.more name s fs) zero t rows e = let same : s ≡ t = cc in ap (λ u. column u (map first_within rows)) same
field_in-behind (types.more name s fs) (suc i) t rows e = field_in-behind fs i t (map rest_within rows) e

-- the first test decides
pub left_false : (x b r : Bool) → x ≡ (b && r) → b ≡ false → x ≡ false
left_false x b r e f = e ∙ ap (λ test. test && r) f

pub left_true : (x b r : Bool) → x ≡ (b && r) → b ≡ true → x ≡ r
left_true x b r e f = e ∙ ap (λ test. test && r) f

field_at : (fs : List (List ℕ × DType)) (i : ℕ) (f : List ℕ × DType) → i < length fs → f ≡ get_or fs i f → slice_get (map field_of fs) i ≡ Some (field_of f)
field_at [] i f l e = absurd (omega arith)
field_at (g ∷ fs) zero f l e = ap (λ h. Some (field_of h)) (sym e)
field_at (g ∷ fs) (suc i) f l e = field_at fs i f (omega arith) e

pub counts-few : (times : ℕ) (t : PlainType) (vs : List PlainValue) → are_few times (counts t vs) ≡ (nat_le (times * length vs) row_limit && are_few times (inner_counts t vs))
counts-few times t vs = ap (are_few times) (counts-inner t vs)

-- the column of structs by its fields, one after the other
module _ (times : ℕ) (c : Column) (fs : List (List ℕ × DType)) (i : ℕ) (f : List ℕ × DType) (l : i < length fs) (e : f ≡ get_or fs i f) (all : List (List ℕ × PlainType)) (fields : map field_of fs ≡ all)
    (typed : c.dtype ≡ structure (of_fields all) (nullability_of c.dtype)) (few : nat_le (times * length c.values) row_limit ≡ true) where
  abbrev rows : List PlainValues
  rows = struct_rows (of_fields all) c.values

  found : type_in i (of_fields all) ≡ Some (type_of f.1)
  found = type_in-get all i ∙ ap (option_map (λ (h : List ℕ × PlainType). h.1)) (ap (λ gs. slice_get gs i) (sym fields) ∙ field_at fs i f l e)

  own : field_column i c.dtype c.values ≡ column (type_of f.1) (map first_within (behind i rows))
  own = ap (λ t. field_column i t c.values) typed ∙ field_in-behind (of_fields all) i (type_of f.1) rows found

  pub type-field : (field_column i c.dtype c.values).dtype ≡ type_of f.1
  type-field = ap (λ d. d.dtype) own

  firsts-few : nat_le (times * length (map first_within (behind i rows))) row_limit ≡ true
  firsts-few =
      let len = length-map (behind i rows) first_within ∙ length-behind i rows ∙ length-map c.values _ in
      ap (λ n. nat_le (times * n) row_limit) len ∙ few

  pub few-field : nat_le (times * length (field_column i c.dtype c.values).values) row_limit ≡ true
  few-field = ap (λ d. nat_le (times * length d.values) row_limit) own ∙ firsts-few

  pub fields-step : are_few times (field_counts (of_fields (map field_of (drop i fs))) (behind i rows))
      ≡ (are_few times (inner_counts (type_of f.1) (field_column i c.dtype c.values).values) && are_few times (field_counts (of_fields (map field_of (drop (i + 1) fs))) (behind (i + 1) rows)))
  fields-step =
      let next = drop_more fs i f l ∙ ap (λ g. g ∷ drop (i + 1) fs) (sym e) in
      let after : map rest_within (behind i rows) ≡ behind (i + 1) rows = sym (behind-more i rows) ∙ ap (λ k. behind k rows) (sym (add-one i)) in
      let firsts = map first_within (behind i rows) in
      let others = field_counts (of_fields (map field_of (drop (i + 1) fs))) (map rest_within (behind i rows)) in
      ap (λ gs. are_few times (field_counts (of_fields (map field_of gs)) (behind i rows))) next
      ∙ list_all-append (λ count. nat_le (times * count) row_limit) (counts (type_of f.1) firsts) others
      ∙ ap (λ b. b && are_few times others) (counts-few times (type_of f.1) firsts ∙ ap (λ b. b && are_few times (inner_counts (type_of f.1) firsts)) firsts-few)
      ∙ (λ j. are_few times (inner_counts (type_of f.1) (sym own j).values) && are_few times (field_counts (of_fields (map field_of (drop (i + 1) fs))) (after j)))

-- a count that is cut off is within the limit where the count itself is
pub few_least : (times k : ℕ) → nat_le (times * min k (2 ^ 64 - 1)) row_limit ≡ nat_le (times * k) row_limit
few_least times k = by_size (nat_le k (2 ^ 64 - 1)) refl times
  where
    by_size : (b : Bool) → nat_le k (2 ^ 64 - 1) ≡ b → (times : ℕ) → nat_le (times * min k (2 ^ 64 - 1)) row_limit ≡ nat_le (times * k) row_limit
    by_size true e times =
        let small = leb-true k (2 ^ 64 - 1) e in
        let same : min k (2 ^ 64 - 1) ≡ k = omega arith in
        ap (λ n. nat_le (times * n) row_limit) same
    by_size false e zero = rw (zero-mul (min k (2 ^ 64 - 1)), zero-mul k) refl
    by_size false e (suc n) =
        let large : 2 ^ 64 - 1 < k = grind (arith, nat_tests) in
        let a : 2 ^ 31 < suc n * min k (2 ^ 64 - 1) = omega (arith, suc-mul n (min k (2 ^ 64 - 1))) in
        let b : 2 ^ 31 < suc n * k = omega (arith, suc-mul n k) in
        grind (arith, nat_tests)

count_at-turned : (w : PlainWay) (t : PlainType) (vs : List PlainValue) → count_at (turned w here) t vs ≡ length (column_at w (column t vs)).values
count_at-turned w t vs = ap (λ c. length c.values) (reached-turned w here (column t vs))

pub way_of-Here : way_of Here ≡ here
way_of-Here = ap way_of (sym rolls-Here) ∙ fold-roll-Way PlainWay way_step Way-F.Here

pub way_of-Field : (i : ℕ) (w : Bor Way) → way_of (Field i w) ≡ field i (way_of w.now)
way_of-Field i w = ap way_of (sym (rolls-Field i w)) ∙ fold-roll-Way PlainWay way_step (Way-F.Field i w)

pub way_of-Items : (w : Bor Way) → way_of (Items w) ≡ inside (way_of w.now)
way_of-Items w = ap way_of (sym (rolls-Items w)) ∙ fold-roll-Way PlainWay way_step (Way-F.Items w)

pub count_at-Here : (w : PlainWay) (t : PlainType) (vs : List PlainValue) → count_at (turned w (way_of Here)) t vs ≡ length (column_at w (column t vs)).values
count_at-Here w t vs = ap (λ v. count_at (turned w v) t vs) way_of-Here ∙ count_at-turned w t vs
