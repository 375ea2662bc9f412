-- Texts and binaries by their offsets: their rows, and that a constructor's tree is well formed.
use Rattle.std.proofs.Common.{◌≡◌, ◌<◌, ◌+◌, ◌-◌, ◌∙◌, ℕ, List, [], length, map, refl, ap, true, false, cond, None, zero-add}
use Rattle.std.specs.Prelude.{not, is_some, slice_index_or}
use Rattle.std.specs.List.{list_any}
use Rattle.std.proofs.lemmas.Bool.{and_parts}
use Rattle.std.proofs.lemmas.List.FromFn.{length-map-range_with_len, get_or-map-range_with_len}
use Rattle.vx_base.specs.Masks.{rows_between}
use Rattle.vx_base.specs.PlainType.{PlainType, nullability_of, is_nullable}
use Rattle.vx_base.specs.PlainValue.{PlainValue, null, bytes, is_null, bytes_or_empty}
use Rattle.vx_model.specs.Decoded.{zeroed_by}
use Rattle.vx_model.specs.Plain.{validity}
use Rattle.vx_model.specs.Refusals.{kept, validity_length, var_bin_refusal}
use Rattle.vx_model.specs.Rows.{rows, row_at, is_valid_at, offset_at, cut_at}
use Rattle.vx_model.specs.Tree.{Tree, Validity, var_bin}
use Rattle.vx_model.specs.TreeType.{tree_type}
use Rattle.vx_model.specs.WellFormed.{WellFormed}
use Rattle.vx_model.proofs.FlatLemmas.{length-flat, row_at-flat, any_null-flat, validity-flat, items-flat}
use Rattle.vx_model.proofs.PackedLemmas.{passed}
use Rattle.vx_model.proofs.ViewLemmas.{texts_accepted}

-- from each offset to the next
abbrev pub piece : {A : Type 0} → List PlainValue → List A → ℕ → List A
piece offsets all i = rows_between all (offset_at offsets i) (offset_at offsets (i + 1))

pub length-cut_at : {A : Type 0} (offsets : List PlainValue) (all : List A) → length (cut_at offsets all) ≡ length offsets - 1
length-cut_at offsets all = length-map-range_with_len (piece offsets all) 0 (length offsets - 1)

pub cut_at-at : {A : Type 0} (offsets : List PlainValue) (all : List A) (i : ℕ) → i < length offsets - 1 → slice_index_or (cut_at offsets all) i [] ≡ piece offsets all i
cut_at-at offsets all i l = get_or-map-range_with_len (piece offsets all) 0 (length offsets - 1) i i [] l (zero-add i)

-- a constructor's tree is well formed, where nothing is refused
pub var_bin_accepted : (offsets : Tree) (bs : List ℕ) (valid : Validity) (t : PlainType) → var_bin_refusal offsets bs valid t ≡ None → WellFormed offsets → WellFormed (var_bin offsets bs (kept valid) t)
var_bin_accepted offsets bs valid t h w =
    let typed = passed _ _ _ h in
    let lengths = passed _ _ _ typed.1 in
    let ends = passed _ _ _ lengths.1 in
    let kinds = and_parts _ _ typed.0 in
    let own = and_parts _ _ kinds.0 in
    let some = and_parts _ _ lengths.0 in
    let len : validity_length valid (length (cut_at (rows offsets) bs)) ≡ true = rw (length-cut_at (rows offsets) bs) some.1 in
    let a = texts_accepted t (cut_at (rows offsets) bs) valid kinds.1 len ends.1 in
    (w, record { offsets_type = own.0; not_null = is_false (is_nullable (tree_type offsets)) own.1; some = some.0; ends = ends.0; values = a.view }, a.fitting)
  where
    is_false : (b : _) → not b ≡ true → b ≡ false
    is_false true e = absurd cc
    is_false false e = refl

module _ (offsets : Tree) (bs : List ℕ) (valid : Validity) (t : PlainType) (h : WellFormed (var_bin offsets bs valid t)) where
  pub length-var_bin : length (rows (var_bin offsets bs valid t)) ≡ length (rows offsets) - 1
  length-var_bin = length-flat bytes (λ b. refl) (cut_at (rows offsets) bs) valid (nullability_of t) h.1.values.validity ∙ length-cut_at (rows offsets) bs

  pub row_at-var_bin : (i : ℕ) → i < length (rows offsets) - 1 → row_at (rows (var_bin offsets bs valid t)) i ≡ cond (is_valid_at valid i) (bytes (piece (rows offsets) bs i)) null
  row_at-var_bin i l =
      let within : i < length (cut_at (rows offsets) bs) = rw (length-cut_at (rows offsets) bs) l in
      row_at-flat bytes (λ b. refl) (cut_at (rows offsets) bs) valid (nullability_of t) h.1.values.validity [] i within
      ∙ ap (λ x. cond (is_valid_at valid i) (bytes x) null) (cut_at-at (rows offsets) bs i l)

  pub any_null-var_bin : list_any is_null (rows (var_bin offsets bs valid t)) ≡ is_some valid
  any_null-var_bin = any_null-flat bytes (λ b. refl) (cut_at (rows offsets) bs) valid (nullability_of t) h.1.values.validity

  pub validity-var_bin : validity (rows (var_bin offsets bs valid t)) ≡ valid
  validity-var_bin = validity-flat bytes (λ b. refl) (cut_at (rows offsets) bs) valid (nullability_of t) h.1.values.validity

  -- the bytes, none beneath nulls
  pub items-var_bin : map bytes_or_empty (rows (var_bin offsets bs valid t)) ≡ zeroed_by [] valid (cut_at (rows offsets) bs)
  items-var_bin = items-flat bytes (λ b. refl) (cut_at (rows offsets) bs) valid (nullability_of t) h.1.values.validity bytes_or_empty (λ b. refl)
