-- The plain tree of a column: its rows and type, and that it is well formed.
use Rattle.std.proofs.Common.{◌≡◌, ◌<◌, ◌*◌, ◌-◌, ◌^◌, ℕ, suc, pos, true, false, cond, List, [], ◌∷◌, map, length, Some, None, refl, sym, ap, subst, arith, ◌∙◌}
use Rattle.std.specs.Prelude.{IsTrue, not, replicate}
use Rattle.std.specs.Str.{is_utf8}
use Rattle.std.specs.List.{list_all, list_any}
use Rattle.std.proofs.lemmas.Bool.{cond_both, and_parts, and_from, or_parts, eq-eqb, lt-ltb}
use Rattle.std.proofs.lemmas.Bool.Decides.{nat_tests}
use Rattle.std.proofs.lemmas.List.{length-map}
use Rattle.std.proofs.lemmas.Simd.{map-map}
use Rattle.vx_base.specs.declared.ptype.PType.{PType}
use Rattle.vx_base.specs.declared.ptype.PType.TheVariants.{U64, I64}
use Rattle.vx_base.specs.declared.dtype.Nullability.{Nullability}
use Rattle.vx_base.specs.declared.dtype.Nullability.TheVariants.{NonNullable}
use Rattle.vx_base.specs.Defaults.{default_of, field_defaults, or_default}
use Rattle.vx_base.specs.Integers.{lies_in}
use Rattle.vx_base.specs.PlainType.{PlainType, PlainFields, null_type, boolean, primitive, utf8, binary, timestamp, structure, list, fixed_size_list, allows_null, nullability_of, is_bytes}
use Rattle.vx_base.specs.PlainType as types
use Rattle.vx_base.specs.PlainScalar.{fits, fields_fit}
use Rattle.vx_base.specs.PlainValue.{PlainValue, PlainValues, null, truth, int, bytes, items, is_null, is_short, truth_or_false, whole_or_zero, bytes_or_empty, items_or_empty}
use Rattle.vx_base.specs.Timestamps.{PlainTimestamp}
use Rattle.vx_base.proofs.FitLemmas.{lies_in-zero}
use Rattle.vx_base.proofs.NullLemmas.{by_null, null-fitted, all-not_null}
use Rattle.vx_base.proofs.TypeLemmas.{allows_null-is}
use Rattle.vx_base.proofs.WithinLemmas.{of_list-list_of}
use Rattle.vx_model.specs.Tree.{list_of}
use Rattle.vx_model.specs.Rows.{rows, masked_rows, valid_rows, field_rows, cut_at, parts_of, each_before, list_value}
use Rattle.vx_model.specs.TreeType.{tree_type, field_types}
use Rattle.vx_model.specs.Column.{Column, column, column_of, IsColumn}
use Rattle.vx_model.specs.Nested.{within, first_within, rest_within, struct_rows, names_of, list_rows, concatenated, elements, fixed_rows, fixed_elements}
use Rattle.vx_model.specs.Offsets.{offsets_of, offset_values}
use Rattle.vx_model.specs.Plain.{valid_bits, validity, plain_of, plain_fields, plain_offsets, plain, IsPlain, FewElements, FewFieldElements}
use Rattle.vx_model.specs.WellFormed.{WellFormed, AllWellFormed, IsView, IsList, IsFixedSizeList, IsValidityOf, RowsFit, are_offsets, all_have_rows}
use Rattle.vx_model.proofs.JoinedLemmas.{length-offset_values, cut_joined, joined_offsets, offsets_lie}
use Rattle.vx_model.proofs.MadeLemmas.{primitive_made}
use Rattle.vx_model.proofs.NestedLemmas.{struct_rows-fit, length-struct_rows, firsts-fit, rests-fit, each_before-back, no_fields, elements-fit, fixed_rows-sized, fixed_elements-fit, length-fixed_rows, length-concatenated, parts_of-concatenated}
use Rattle.vx_model.proofs.NullsLemmas.{nulls_made}

pub length-valid_bits : (vs : List PlainValue) → length (valid_bits vs) ≡ length vs
length-valid_bits vs = length-map vs _

-- ---- items of values, with the default beneath nulls

-- each value of a type other than null comes back from its item
module _ {A : Type 0} (t : PlainType) (item : PlainValue → A) (value : A → PlainValue) (back : (v : PlainValue) → is_null v ≡ false → fits t v ≡ true → value (item v) ≡ v) where
  row-back : (v : PlainValue) → fits t v ≡ true → cond (not (is_null v)) (value (item v)) null ≡ v
  row-back = by_null (λ v. fits t v ≡ true → cond (not (is_null v)) (value (item v)) null ≡ v) (λ h. refl) (λ v e h. rw e (back v e h))

  -- masked by the validity bits they are the values
  pub masked_rows-items : (vs : List PlainValue) → list_all (fits t) vs ≡ true → masked_rows (valid_bits vs) (map value (map item vs)) ≡ vs
  masked_rows-items [] h = refl
  masked_rows-items (v ∷ vs) h = let b = and_parts (fits t v) (list_all (fits t) vs) h in λ i. row-back v b.0 i ∷ masked_rows-items vs b.1 i

  -- without nulls they need no mask
  pub map-items : (vs : List PlainValue) → list_all (fits t) vs ≡ true → list_any is_null vs ≡ false → map value (map item vs) ≡ vs
  map-items [] h e = refl
  map-items (v ∷ vs) h e =
      let b = and_parts (fits t v) (list_all (fits t) vs) h in
      let n = or_parts (is_null v) (list_any is_null vs) e in
      λ i. back v n.0 b.0 i ∷ map-items vs b.1 n.1 i

  pub valid_rows-items : (vs : List PlainValue) → list_all (fits t) vs ≡ true → valid_rows (validity vs) (map value (map item vs)) ≡ vs
  valid_rows-items vs h =
      cond_both (list_any is_null vs) (Some (valid_bits vs)) None (λ valid. valid_rows valid (map value (map item vs)) ≡ vs) (λ e. masked_rows-items vs h) (map-items vs h)

truth-back : (n : Nullability) (v : PlainValue) → is_null v ≡ false → fits (boolean n) v ≡ true → truth (truth_or_false v) ≡ v
truth-back n (truth b) e h = refl
truth-back n null e h = absurd cc
truth-back n v e h = absurd cc

whole-back : (p : PType) (n : Nullability) (v : PlainValue) → is_null v ≡ false → fits (primitive p n) v ≡ true → int (whole_or_zero v) ≡ v
whole-back p n (int z) e h = refl
whole-back p n null e h = absurd cc
whole-back p n v e h = absurd cc

stamp-back : (k : PlainTimestamp) (n : Nullability) (v : PlainValue) → is_null v ≡ false → fits (timestamp k n) v ≡ true → int (whole_or_zero v) ≡ v
stamp-back k n (int z) e h = refl
stamp-back k n null e h = absurd cc
stamp-back k n v e h = absurd cc

text-back : (n : Nullability) (v : PlainValue) → is_null v ≡ false → fits (utf8 n) v ≡ true → bytes (bytes_or_empty v) ≡ v
text-back n (bytes bs) e h = refl
text-back n null e h = absurd cc
text-back n v e h = absurd cc

binary-back : (n : Nullability) (v : PlainValue) → is_null v ≡ false → fits (binary n) v ≡ true → bytes (bytes_or_empty v) ≡ v
binary-back n (bytes bs) e h = refl
binary-back n null e h = absurd cc
binary-back n v e h = absurd cc

pub struct-back : (fs : PlainFields) (n : Nullability) (v : PlainValue) → is_null v ≡ false → fits (structure fs n) v ≡ true → items (within (or_default (items (field_defaults fs)) v)) ≡ v
struct-back fs n (items vs) e h = refl
struct-back fs n null e h = absurd cc
struct-back fs n v e h = absurd cc

pub list-back : (t : PlainType) (n : Nullability) (v : PlainValue) → is_null v ≡ false → fits (list t n) v ≡ true → list_value (items_or_empty v) ≡ v
list-back t n (items vs) e h = ap items (of_list-list_of vs)
list-back t n null e h = absurd cc
list-back t n v e h = absurd cc

fixed-back : (t : PlainType) (size : ℕ) (n : Nullability) (default v : PlainValue) → is_null v ≡ false → fits (fixed_size_list t size n) v ≡ true → list_value (items_or_empty (or_default default v)) ≡ v
fixed-back t size n default (items vs) e h = ap items (of_list-list_of vs)
fixed-back t size n default null e h = absurd cc
fixed-back t size n default v e h = absurd cc

pub fixed_rows-back : (t : PlainType) (size : ℕ) (n : Nullability) (vs : List PlainValue) → list_all (fits (fixed_size_list t size n)) vs ≡ true → valid_rows (validity vs) (map list_value (list_rows (fixed_rows t size vs))) ≡ vs
fixed_rows-back t size n vs h =
    let default = default_of (fixed_size_list t size NonNullable) in
    ap (λ rs. valid_rows (validity vs) (map list_value rs)) (map-map items_or_empty (or_default default) vs)
    ∙ valid_rows-items (fixed_size_list t size n) (λ v. items_or_empty (or_default default v)) list_value (fixed-back t size n default) vs h

pub nulls-back : (vs : List PlainValue) → list_all (fits null_type) vs ≡ true → replicate (length vs) null ≡ vs
nulls-back [] h = refl
nulls-back (null ∷ vs) h = ap (λ others. null ∷ others) (nulls-back vs h)
nulls-back (v ∷ vs) h = absurd cc

mutual
  pub rows-plain_of : (t : PlainType) (vs : List PlainValue) → list_all (fits t) vs ≡ true → rows (plain_of t vs) ≡ vs
  rows-plain_of null_type vs h = nulls-back vs h
  rows-plain_of (boolean n) vs h = valid_rows-items (boolean n) truth_or_false truth (truth-back n) vs h
  rows-plain_of (primitive p n) vs h = valid_rows-items (primitive p n) whole_or_zero int (whole-back p n) vs h
  rows-plain_of (utf8 n) vs h = valid_rows-items (utf8 n) bytes_or_empty bytes (text-back n) vs h
  rows-plain_of (binary n) vs h = valid_rows-items (binary n) bytes_or_empty bytes (binary-back n) vs h
  rows-plain_of (timestamp k n) vs h = valid_rows-items (timestamp k n) whole_or_zero int (stamp-back k n) vs h
  rows-plain_of (structure fs n) vs h =
      let own = ap (field_rows (plain_fields fs (struct_rows fs vs))) (sym (length-struct_rows fs vs)) ∙ field_rows-plain fs (struct_rows fs vs) (struct_rows-fit fs n vs h) in
      ap (λ rs. valid_rows (validity vs) (map items rs)) own ∙ valid_rows-items (structure fs n) (λ v. within (or_default (items (field_defaults fs)) v)) items (struct-back fs n) vs h
  rows-plain_of (list t n) vs h =
      let own = ap (cut_at (offset_values (list_rows vs))) (rows-plain_of t (elements vs) (elements-fit t n vs h)) ∙ cut_joined (list_rows vs) in
      ap (λ rs. valid_rows (validity vs) (map list_value rs)) own ∙ valid_rows-items (list t n) items_or_empty list_value (list-back t n) vs h
  rows-plain_of (fixed_size_list t size n) vs h =
      let own =
      ap (parts_of size (length vs)) (rows-plain_of t (fixed_elements t size vs) (fixed_elements-fit t size n vs h))
      ∙ ap (λ len. parts_of size len (fixed_elements t size vs)) (sym (length-fixed_rows t size vs)) ∙ parts_of-concatenated size (list_rows (fixed_rows t size vs)) (fixed_rows-sized t size n vs h) in
      ap (λ rs. valid_rows (validity vs) (map list_value rs)) own ∙ fixed_rows-back t size n vs h

  -- and so each struct's fields
  pub field_rows-plain : (fs : PlainFields) (rs : List PlainValues) → list_all (fields_fit fs) rs ≡ true → field_rows (plain_fields fs rs) (length rs) ≡ rs
  field_rows-plain types.none rs h = no_fields rs h
  field_rows-plain (types.more name t fs) rs h =
      let others = ap (field_rows (plain_fields fs (map rest_within rs))) (sym (length-map rs rest_within)) ∙ field_rows-plain fs (map rest_within rs) (rests-fit name t fs rs h) in
      (λ i. each_before (rows-plain_of t (map first_within rs) (firsts-fit name t fs rs h) i) (others i)) ∙ each_before-back name t fs rs h

mutual
  pub type-plain_of : (t : PlainType) (vs : List PlainValue) → tree_type (plain_of t vs) ≡ t
  type-plain_of null_type vs = refl
  type-plain_of (boolean n) vs = refl
  type-plain_of (primitive p n) vs = refl
  type-plain_of (utf8 n) vs = refl
  type-plain_of (binary n) vs = refl
  type-plain_of (timestamp k n) vs = refl
  type-plain_of (structure fs n) vs = ap (λ gs. structure gs n) (field_types-plain fs (struct_rows fs vs))
  type-plain_of (list t n) vs = ap (λ s. list s n) (type-plain_of t (elements vs))
  type-plain_of (fixed_size_list t size n) vs = ap (λ s. fixed_size_list s size n) (type-plain_of t (fixed_elements t size vs))

  pub field_types-plain : (fs : PlainFields) (rs : List PlainValues) → field_types (names_of fs) (plain_fields fs rs) ≡ fs
  field_types-plain types.none rs = refl
  field_types-plain (types.more name t fs) rs = λ i. types.more name (type-plain_of t (map first_within rs) i) (field_types-plain fs (map rest_within rs) i)

pub column_of-plain : (c : Column) → IsColumn c → column_of (plain c) ≡ c
column_of-plain c h = λ i. column (type-plain_of c.dtype c.values i) (rows-plain_of c.dtype c.values h i)

pub plain_is_plain : (c : Column) → IsColumn c → IsPlain (plain c)
plain_is_plain c h = ap plain (sym (column_of-plain c h))

-- ---- the plain tree of a column is well formed

whole_lies_in : (p : PType) (n : Nullability) (v : PlainValue) → fits (primitive p n) v ≡ true → lies_in p (whole_or_zero v) ≡ true
whole_lies_in p n null e = lies_in-zero p
whole_lies_in p n (int z) e = e
whole_lies_in p n v e = absurd cc

pub wholes_lie_in : (p : PType) (n : Nullability) (vs : List PlainValue) → list_all (fits (primitive p n)) vs ≡ true → list_all (lies_in p) (map whole_or_zero vs) ≡ true
wholes_lie_in p n [] e = refl
wholes_lie_in p n (v ∷ vs) e = let both = and_parts _ _ e in and_from _ _ (whole_lies_in p n v both.0) (wholes_lie_in p n vs both.1)

pub IsValidityOf-validity : {A : Type 0} (f : PlainValue → A) (t : PlainType) (vs : List PlainValue) → list_all (fits t) vs ≡ true → IsValidityOf (validity vs) (length (map f vs)) (nullability_of t)
IsValidityOf-validity f t vs e =
    cond_both (list_any is_null vs) (Some (valid_bits vs)) None (λ valid. IsValidityOf valid (length (map f vs)) (nullability_of t))
    (λ some. (length-valid_bits vs ∙ sym (length-map vs f), allows_null-is (nullability_of t) (null-fitted t vs e some), all-not_null vs ∙ ap not some)) (λ none. tt)

short_item : (t : PlainType) → is_bytes t ≡ true → (v : PlainValue) → fits t v ≡ true → is_short (bytes_or_empty v) ≡ true
short_item t i null h = refl
short_item t i (truth b) h = refl
short_item t i (int z) h = refl
short_item t i (items vs) h = refl
short_item (utf8 n) i (bytes bs) h = (and_parts (is_short bs) (is_utf8 bs) h).0
short_item (binary n) i (bytes bs) h = h
short_item t i (bytes bs) h = absurd cc

pub short_items : (t : PlainType) → is_bytes t ≡ true → (vs : List PlainValue) → list_all (fits t) vs ≡ true → list_all is_short (map bytes_or_empty vs) ≡ true
short_items t i [] h = refl
short_items t i (v ∷ vs) h = let b = and_parts (fits t v) (list_all (fits t) vs) h in and_from _ _ (short_item t i v b.0) (short_items t i vs b.1)

-- timestamps are whole numbers of 64 signed bits
pub stamps_fit : (k : PlainTimestamp) (n : Nullability) (vs : List PlainValue) → list_all (fits (timestamp k n)) vs ≡ true → list_all (fits (primitive I64 n)) vs ≡ true
stamps_fit k n [] h = refl
stamps_fit k n (null ∷ vs) h = let b = and_parts (allows_null n) (list_all (fits (timestamp k n)) vs) h in and_from _ _ b.0 (stamps_fit k n vs b.1)
stamps_fit k n (int z ∷ vs) h = let b = and_parts (lies_in I64 z) (list_all (fits (timestamp k n)) vs) h in and_from _ _ b.0 (stamps_fit k n vs b.1)
stamps_fit k n (v ∷ vs) h = absurd cc

-- the rows fit the tree's own type
own_rows_fit : (t : PlainType) (vs : List PlainValue) → list_all (fits t) vs ≡ true → RowsFit (plain_of t vs)
own_rows_fit t vs e = (λ i. list_all (fits (type-plain_of t vs i)) (rows-plain_of t vs e i)) ∙ e

wholes_well_formed : (p : PType) (n : Nullability) (vs : List PlainValue) → list_all (fits (primitive p n)) vs ≡ true → WellFormed (plain_of (primitive p n) vs)
wholes_well_formed p n vs e = (record { held = wholes_lie_in p n vs e; validity = IsValidityOf-validity whole_or_zero (primitive p n) vs e }, own_rows_fit (primitive p n) vs e)

views : (t : PlainType) → is_bytes t ≡ true → (vs : List PlainValue) → list_all (fits t) vs ≡ true → IsView (map bytes_or_empty vs) (validity vs) t
views t i vs e = record { byte_type = i; short = short_items t i vs e; validity = IsValidityOf-validity bytes_or_empty t vs e }

-- ---- nested columns

-- a name for each field's tree
pub length-plain_fields : (fs : PlainFields) (rs : List PlainValues) → length (names_of fs) ≡ length (list_of (plain_fields fs rs))
length-plain_fields types.none rs = refl
length-plain_fields (types.more name t fs) rs = ap suc (length-plain_fields fs (map rest_within rs))

pub plain_fields-rows : (fs : PlainFields) (rs : List PlainValues) (len : ℕ) → length rs ≡ len → list_all (fields_fit fs) rs ≡ true → all_have_rows len (plain_fields fs rs) ≡ true
plain_fields-rows types.none rs len e h = refl
plain_fields-rows (types.more name t fs) rs len e h =
    and_from _ _ (eq-eqb _ _ (ap length (rows-plain_of t (map first_within rs) (firsts-fit name t fs rs h)) ∙ length-map rs first_within ∙ e))
    (plain_fields-rows fs (map rest_within rs) len (length-map rs rest_within ∙ e) (rests-fit name t fs rs h))

-- a bit per value
pub validity-rows : (t : PlainType) (vs : List PlainValue) (len : ℕ) → list_all (fits t) vs ≡ true → length vs ≡ len → IsValidityOf (validity vs) len (nullability_of t)
validity-rows t vs len h e = subst (λ k. IsValidityOf (validity vs) k (nullability_of t)) (length-map vs is_null ∙ e) (IsValidityOf-validity is_null t vs h)

offsets_well_formed : (rows : List (List PlainValue)) → length (concatenated rows) < 2 ^ 64 → WellFormed (plain_offsets rows)
offsets_well_formed rows l = primitive_made U64 (map pos (offsets_of rows)) None NonNullable refl refl (offsets_lie U64 (length (concatenated rows)) 0 rows (omega arith) (lt-ltb _ _ l))

pub lists : (t : PlainType) (n : Nullability) (vs : List PlainValue) → list_all (fits (list t n)) vs ≡ true → IsList (plain_of t (elements vs)) (plain_offsets (list_rows vs)) (validity vs) n
lists t n vs h =
    let count = length-offset_values (list_rows vs) in
    let own = length-map vs items_or_empty in
    record {
      offsets_type = refl;
      not_null = refl;
      some = rw count (grind (arith, nat_tests));
      ends = ap (λ es. are_offsets (length es) (offset_values (list_rows vs))) (rows-plain_of t (elements vs) (elements-fit t n vs h)) ∙ joined_offsets (list_rows vs);
      validity = validity-rows (list t n) vs (length (offset_values (list_rows vs)) - 1) h (omega arith);
    }

pub fixed_lists : (t : PlainType) (size : ℕ) (n : Nullability) (vs : List PlainValue) → list_all (fits (fixed_size_list t size n)) vs ≡ true → IsFixedSizeList (plain_of t (fixed_elements t size vs)) size (length vs) (validity vs) n
fixed_lists t size n vs h =
    record {
      lengths =
          ap length (rows-plain_of t (fixed_elements t size vs) (fixed_elements-fit t size n vs h)) ∙ length-concatenated size (list_rows (fixed_rows t size vs)) (fixed_rows-sized t size n vs h)
          ∙ ap (λ len. len * size) (length-fixed_rows t size vs);
      validity = validity-rows (fixed_size_list t size n) vs (length vs) h refl;
    }

mutual
  pub plain_of_well_formed : (t : PlainType) (vs : List PlainValue) → IsTrue (list_all (fits t) vs) → FewElements t vs → WellFormed (plain_of t vs)
  plain_of_well_formed null_type vs e few = nulls_made (length vs)
  plain_of_well_formed (boolean n) vs e few = (IsValidityOf-validity truth_or_false (boolean n) vs e, own_rows_fit (boolean n) vs e)
  plain_of_well_formed (primitive p n) vs e few = wholes_well_formed p n vs e
  plain_of_well_formed (utf8 n) vs e few = (views (utf8 n) refl vs e, own_rows_fit (utf8 n) vs e)
  plain_of_well_formed (binary n) vs e few = (views (binary n) refl vs e, own_rows_fit (binary n) vs e)
  plain_of_well_formed (timestamp k n) vs e few = (wholes_well_formed I64 n vs (stamps_fit k n vs e), record { storage_type = refl }, own_rows_fit (timestamp k n) vs e)
  plain_of_well_formed (structure fs n) vs e few = (
    plain_fields_well_formed fs (struct_rows fs vs) (struct_rows-fit fs n vs e) few,
    record {
      named = length-plain_fields fs (struct_rows fs vs);
      lengths = plain_fields-rows fs (struct_rows fs vs) (length vs) (length-struct_rows fs vs) (struct_rows-fit fs n vs e);
      validity = validity-rows (structure fs n) vs (length vs) e refl;
    },
    own_rows_fit (structure fs n) vs e,
  )
  plain_of_well_formed (list t n) vs e few = (
    plain_of_well_formed t (elements vs) (elements-fit t n vs e) few.1,
    offsets_well_formed (list_rows vs) few.0,
    lists t n vs e,
    own_rows_fit (list t n) vs e,
  )
  plain_of_well_formed (fixed_size_list t size n) vs e few = (
    plain_of_well_formed t (fixed_elements t size vs) (fixed_elements-fit t size n vs e) few,
    fixed_lists t size n vs e,
    own_rows_fit (fixed_size_list t size n) vs e,
  )

  pub plain_fields_well_formed : (fs : PlainFields) (rs : List PlainValues) → list_all (fields_fit fs) rs ≡ true → FewFieldElements fs rs → AllWellFormed (plain_fields fs rs)
  plain_fields_well_formed types.none rs h few = tt
  plain_fields_well_formed (types.more name t fs) rs h few =
      (plain_of_well_formed t (map first_within rs) (firsts-fit name t fs rs h) few.0, plain_fields_well_formed fs (map rest_within rs) (rests-fit name t fs rs h) few.1)

pub plain_well_formed : (c : Column) → IsColumn c → FewElements c.dtype c.values → WellFormed (plain c)
plain_well_formed c e few = plain_of_well_formed c.dtype c.values e few
