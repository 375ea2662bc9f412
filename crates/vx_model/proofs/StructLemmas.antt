-- Structs: their rows, and that a constructor's tree is well formed.
use Rattle.std.proofs.Common.{◌≡◌, ◌<◌, ◌∙◌, ℕ, zero, suc, List, [], ◌∷◌, length, map, refl, ap, sym, subst, arith, true, cond, None}
use Rattle.std.specs.Prelude.{slice_index_or, is_some}
use Rattle.std.specs.List.{list_all, list_any}
use Rattle.std.proofs.lemmas.Bool.{and_parts, and_from, eqb-true}
use Rattle.std.proofs.lemmas.List.{length-replicate}
use Rattle.vx_base.specs.declared.dtype.Nullability.{Nullability}
use Rattle.vx_base.specs.Defaults.{or_default, field_defaults}
use Rattle.vx_base.specs.PlainScalar.{fits, fields_fit}
use Rattle.vx_base.specs.PlainType.{PlainType, PlainFields}
use Rattle.vx_base.specs.PlainType as types
use Rattle.vx_base.specs.PlainValue.{PlainValue, PlainValues, null, items, is_null, none, more, of_list}
use Rattle.vx_model.specs.Decoded.{zeroed_by}
use Rattle.vx_model.specs.Nested.{within, first_within, rest_within, struct_rows}
use Rattle.vx_model.specs.Plain.{validity}
use Rattle.vx_model.specs.Refusals.{kept, structure_refusal}
use Rattle.vx_model.specs.Rows.{rows, row_at, is_valid_at, each_before, field_rows}
use Rattle.vx_model.specs.Tree.{Tree, Trees, Validity, structure, list_of}
use Rattle.vx_model.specs.Tree as trees
use Rattle.vx_model.specs.TreeType.{tree_type, field_types}
use Rattle.vx_model.specs.WellFormed.{WellFormed, AllWellFormed, IsValidityOf, all_have_rows}
use Rattle.vx_model.proofs.FlatLemmas.{length-flat, row_at-flat, any_null-flat, validity-flat, items-flat}
use Rattle.vx_model.proofs.MadeLemmas.{kept_validity, valid_fit, rows_fit}
use Rattle.vx_model.proofs.PackedLemmas.{passed}

-- ---- a column beside rows of values

pub length-each_before : (column : List PlainValue) (rs : List PlainValues) → length column ≡ length rs → length (each_before column rs) ≡ length rs
length-each_before [] [] e = refl
length-each_before [] (r ∷ rs) e = absurd (omega arith)
length-each_before (v ∷ column) [] e = absurd (omega arith)
length-each_before (v ∷ column) (r ∷ rs) e = let rest = length-each_before column rs (omega arith) in omega arith

each_before-at : (column : List PlainValue) (rs : List PlainValues) (i : ℕ) → i < length column → length column ≡ length rs → slice_index_or (each_before column rs) i none ≡ more (row_at column i) (slice_index_or rs i none)
each_before-at [] rs i l e = absurd (omega arith)
each_before-at (v ∷ column) [] i l e = absurd (omega arith)
each_before-at (v ∷ column) (r ∷ rs) zero l e = refl
each_before-at (v ∷ column) (r ∷ rs) (suc i) l e = each_before-at column rs i (omega arith) (omega arith)

each_before-fit : (name : List ℕ) (t : PlainType) (fs : PlainFields) (column : List PlainValue) (rs : List PlainValues) → list_all (fits t) column ≡ true → list_all (fields_fit fs) rs ≡ true
    → list_all (fields_fit (types.more name t fs)) (each_before column rs) ≡ true
each_before-fit name t fs [] rs h k = refl
each_before-fit name t fs (v ∷ column) [] h k = refl
each_before-fit name t fs (v ∷ column) (r ∷ rs) h k =
    let b = and_parts (fits t v) (list_all (fits t) column) h in
    let c = and_parts (fields_fit fs r) (list_all (fields_fit fs) rs) k in
    and_from _ _ (and_from _ _ b.0 c.0) (each_before-fit name t fs column rs b.1 c.1)

-- both come back
pub first-each_before : (column : List PlainValue) (rs : List PlainValues) → length column ≡ length rs → map first_within (each_before column rs) ≡ column
first-each_before [] rs e = refl
first-each_before (v ∷ column) [] e = absurd (omega arith)
first-each_before (v ∷ column) (r ∷ rs) e = ap (λ vs. v ∷ vs) (first-each_before column rs (omega arith))

pub rest-each_before : (column : List PlainValue) (rs : List PlainValues) → length column ≡ length rs → map rest_within (each_before column rs) ≡ rs
rest-each_before [] [] e = refl
rest-each_before [] (r ∷ rs) e = absurd (omega arith)
rest-each_before (v ∷ column) [] e = refl
rest-each_before (v ∷ column) (r ∷ rs) e = ap (λ qs. r ∷ qs) (rest-each_before column rs (omega arith))

-- ---- the fields' rows

pub length-field_rows : (fields : Trees) (len : ℕ) → all_have_rows len fields ≡ true → length (field_rows fields len) ≡ len
length-field_rows trees.none len h = length-replicate len none
length-field_rows (trees.more t ts) len h =
    let b = and_parts _ (all_have_rows len ts) h in
    let rest = length-field_rows ts len b.1 in
    length-each_before (rows t) (field_rows ts len) (eqb-true _ _ b.0 ∙ sym rest) ∙ rest

-- in each row the values of the fields
pub field_rows-at : (fields : Trees) (len i : ℕ) → i < len → all_have_rows len fields ≡ true → slice_index_or (field_rows fields len) i none ≡ of_list (map (λ t. row_at (rows t) i) (list_of fields))
field_rows-at trees.none len i l h = copies len i
  where
    copies : (len i : ℕ) → slice_index_or (field_rows trees.none len) i none ≡ none
    copies zero i = refl
    copies (suc len) zero = refl
    copies (suc len) (suc i) = copies len i
field_rows-at (trees.more t ts) len i l h =
    let b = and_parts _ (all_have_rows len ts) h in
    let own = eqb-true (length (rows t)) len b.0 in
    each_before-at (rows t) (field_rows ts len) i (omega arith) (own ∙ sym (length-field_rows ts len b.1)) ∙ ap (more (row_at (rows t) i)) (field_rows-at ts len i l b.1)

pub field_rows-fit : (names : List (List ℕ)) (fields : Trees) (len : ℕ) → length names ≡ length (list_of fields) → AllWellFormed fields → list_all (fields_fit (field_types names fields)) (field_rows fields len) ≡ true
field_rows-fit [] trees.none len e w = copies len
  where
    copies : (len : ℕ) → list_all (fields_fit types.none) (field_rows trees.none len) ≡ true
    copies zero = refl
    copies (suc len) = copies len
field_rows-fit (name ∷ names) trees.none len e w = absurd (omega arith)
field_rows-fit [] (trees.more t ts) len e w = absurd (omega arith)
field_rows-fit (name ∷ names) (trees.more t ts) len e w =
    each_before-fit name (tree_type t) (field_types names ts) (rows t) (field_rows ts len) (rows_fit t w.0) (field_rows-fit names ts len (omega arith) w.1)

-- ---- the structs

pub items-fit : (fs : PlainFields) (n : Nullability) (rs : List PlainValues) → list_all (fields_fit fs) rs ≡ true → list_all (fits (types.structure fs n)) (map items rs) ≡ true
items-fit fs n [] h = refl
items-fit fs n (r ∷ rs) h = let b = and_parts (fields_fit fs r) (list_all (fields_fit fs) rs) h in and_from _ _ b.0 (items-fit fs n rs b.1)

-- structs that aren't null are the values of their fields
pub struct_rows-items : (fs : PlainFields) (rs : List PlainValues) → struct_rows fs (map items rs) ≡ rs
struct_rows-items fs [] = refl
struct_rows-items fs (r ∷ rs) = ap (λ qs. r ∷ qs) (struct_rows-items fs rs)

-- a constructor's tree is well formed, where nothing is refused
pub structure_accepted : (names : List (List ℕ)) (fields : Trees) (len : ℕ) (valid : Validity) (n : Nullability) → structure_refusal names fields len valid n ≡ None → AllWellFormed fields → WellFormed (structure names fields len (kept valid) n)
structure_accepted names fields len valid n h w =
    let lengths = passed _ _ _ h in
    let allowed = passed _ _ _ lengths.1 in
    let both = and_parts _ _ lengths.0 in
    let rest = and_parts _ _ both.1 in
    let named = eqb-true (length names) (length (list_of fields)) both.0 in
    let bits = kept_validity valid len n rest.1 allowed.0 in (
      w,
      record { named = named; lengths = rest.0; validity = bits },
      valid_fit (kept valid) (types.structure (field_types names fields) n) len (map items (field_rows fields len)) bits (items-fit (field_types names fields) n (field_rows fields len) (field_rows-fit names fields len named w)),
    )

module _ (names : List (List ℕ)) (fields : Trees) (len : ℕ) (valid : Validity) (n : Nullability) (h : WellFormed (structure names fields len valid n)) where
  count : length (field_rows fields len) ≡ len
  count = length-field_rows fields len h.1.lengths

  bits : IsValidityOf valid (length (field_rows fields len)) n
  bits = subst (λ k. IsValidityOf valid k n) (sym count) h.1.validity

  pub length-structure : length (rows (structure names fields len valid n)) ≡ len
  length-structure = length-flat items (λ vs. refl) (field_rows fields len) valid n bits ∙ count

  pub row_at-structure : (i : ℕ) → i < len → row_at (rows (structure names fields len valid n)) i ≡ cond (is_valid_at valid i) (items (of_list (map (λ t. row_at (rows t) i) (list_of fields)))) null
  row_at-structure i l =
      row_at-flat items (λ vs. refl) (field_rows fields len) valid n bits none i (subst (λ k. i < k) (sym count) l)
      ∙ ap (λ vs. cond (is_valid_at valid i) (items vs) null) (field_rows-at fields len i l h.1.lengths)

  pub any_null-structure : list_any is_null (rows (structure names fields len valid n)) ≡ is_some valid
  any_null-structure = any_null-flat items (λ vs. refl) (field_rows fields len) valid n bits

  pub validity-structure : validity (rows (structure names fields len valid n)) ≡ valid
  validity-structure = validity-flat items (λ vs. refl) (field_rows fields len) valid n bits

  -- the fields' values, the defaults beneath nulls
  pub items-structure : struct_rows (field_types names fields) (rows (structure names fields len valid n)) ≡ zeroed_by (field_defaults (field_types names fields)) valid (field_rows fields len)
  items-structure = items-flat items (λ vs. refl) (field_rows fields len) valid n bits (λ v. within (or_default (items (field_defaults (field_types names fields))) v)) (λ vs. refl)

pub ruleset struct_reads = (length-structure, row_at-structure)
