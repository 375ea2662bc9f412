-- Texts and binaries in a list: their rows, that a constructor's tree is well formed, and when it is plain.
use Rattle.std.proofs.Common.{◌≡◌, ◌↔◌, ◌<◌, ℕ, List, [], ◌∷◌, length, map, refl, sym, ap, ◌∙◌, true, cond, None}
use Rattle.std.specs.Prelude.{is_some, slice_index_or}
use Rattle.std.specs.List.{list_all, list_any}
use Rattle.std.proofs.lemmas.Bool.{and_parts, eqb-true}
use Rattle.vx_base.specs.PlainType.{PlainType, nullability_of, is_bytes}
use Rattle.vx_base.specs.PlainType as types
use Rattle.vx_base.specs.PlainValue.{PlainValue, null, bytes, is_null, bytes_or_empty}
use Rattle.vx_model.specs.Column.{column_of}
use Rattle.vx_model.specs.Decoded.{zeroed_by, zero_beneath_by, is_empty}
use Rattle.vx_model.specs.Plain.{IsPlain, plain, plain_of, validity}
use Rattle.vx_model.specs.Refusals.{kept, validity_length, texts_refusal, var_bin_view_refusal}
use Rattle.vx_model.specs.Rows.{rows, valid_rows, row_at, is_valid_at}
use Rattle.vx_model.specs.Tree.{Tree, Validity, var_bin_view}
use Rattle.vx_model.specs.TreeType.{tree_type}
use Rattle.vx_model.specs.WellFormed.{WellFormed, IsView}
use Rattle.vx_base.specs.PlainScalar.{fits}
use Rattle.vx_model.proofs.DecodeLemmas.{kept-validity}
use Rattle.vx_model.proofs.FlatLemmas.{length-flat, row_at-flat, any_null-flat, validity-flat, items-flat, same_beneath}
use Rattle.vx_model.proofs.MadeLemmas.{kept_validity}
use Rattle.vx_model.proofs.PackedLemmas.{passed}

-- accepted values and their validity
pub record IsAccepted (t : PlainType) (vs : List (List ℕ)) (valid : Validity) : Type 0 where
  pub view : IsView vs (kept valid) t
  pub fitting : list_all (fits t) (valid_rows (kept valid) (map bytes vs)) ≡ true

pub texts_accepted : (t : PlainType) (vs : List (List ℕ)) (valid : Validity) → is_bytes t ≡ true → validity_length valid (length vs) ≡ true → texts_refusal t vs valid ≡ None → IsAccepted t vs valid
texts_accepted t vs valid typed len h =
    let short = passed _ _ _ h in
    let content = passed _ _ _ short.1 in
    let both = and_parts _ _ content.0 in
    record {
      view = record { byte_type = typed; short = short.0; validity = kept_validity valid (length vs) (nullability_of t) len both.0 };
      fitting = both.1;
    }

-- a constructor's tree is well formed, where nothing is refused
pub var_bin_view_accepted : (vs : List (List ℕ)) (valid : Validity) (t : PlainType) → var_bin_view_refusal vs valid t ≡ None → WellFormed (var_bin_view vs (kept valid) t)
var_bin_view_accepted vs valid t h =
    let typed = passed _ _ _ h in
    let len = passed _ _ _ typed.1 in
    let a = texts_accepted t vs valid typed.0 len.0 len.1 in
    (a.view, a.fitting)

module _ (vs : List (List ℕ)) (valid : Validity) (t : PlainType) (h : WellFormed (var_bin_view vs valid t)) where
  pub length-var_bin_view : length (rows (var_bin_view vs valid t)) ≡ length vs
  length-var_bin_view = length-flat bytes (λ b. refl) vs valid (nullability_of t) h.0.validity

  pub row_at-var_bin_view : (i : ℕ) → i < length vs → row_at (rows (var_bin_view vs valid t)) i ≡ cond (is_valid_at valid i) (bytes (slice_index_or vs i [])) null
  row_at-var_bin_view i l = row_at-flat bytes (λ b. refl) vs valid (nullability_of t) h.0.validity [] i l

  pub any_null-var_bin_view : list_any is_null (rows (var_bin_view vs valid t)) ≡ is_some valid
  any_null-var_bin_view = any_null-flat bytes (λ b. refl) vs valid (nullability_of t) h.0.validity

  pub validity-var_bin_view : validity (rows (var_bin_view vs valid t)) ≡ valid
  validity-var_bin_view = validity-flat bytes (λ b. refl) vs valid (nullability_of t) h.0.validity

  -- the bytes, none beneath nulls
  pub items-var_bin_view : map bytes_or_empty (rows (var_bin_view vs valid t)) ≡ zeroed_by [] valid vs
  items-var_bin_view = items-flat bytes (λ b. refl) vs valid (nullability_of t) h.0.validity bytes_or_empty (λ b. refl)

-- the plain tree of a column of texts or binaries
pub plain_of-bytes : (t : PlainType) (vs : List PlainValue) → is_bytes t ≡ true → plain_of t vs ≡ var_bin_view (map bytes_or_empty vs) (validity vs) t
plain_of-bytes (types.utf8 n) vs e = refl
plain_of-bytes (types.binary n) vs e = refl
plain_of-bytes t vs e = absurd cc

pub plain-var_bin_view : (vs : List (List ℕ)) (valid : Validity) (t : PlainType) → WellFormed (var_bin_view vs valid t) → (zero_beneath_by is_empty valid vs ≡ true) ↔ IsPlain (var_bin_view vs valid t)
plain-var_bin_view vs valid t h =
    let same = same_beneath [] is_empty empty refl valid vs in
    let plain_by : plain (column_of (var_bin_view vs valid t)) ≡ var_bin_view (zeroed_by [] valid vs) valid t =
    plain_of-bytes t (rows (var_bin_view vs valid t)) h.0.byte_type ∙ (λ i. var_bin_view (items-var_bin_view vs valid t h i) (validity-var_bin_view vs valid t h i) t) in (
      λ z. ap (λ ys. var_bin_view ys valid t) (sym (same.0 z)) ∙ sym plain_by,
      λ q. same.1 (let s : var_bin_view (zeroed_by [] valid vs) valid t ≡ var_bin_view vs valid t = sym (q ∙ plain_by) in cc),
    )
  where
    empty : (bs : List ℕ) → is_empty bs ≡ true → bs ≡ []
    empty [] e = refl
    empty (b ∷ bs) e = let none : length (b ∷ bs) ≡ 0 = eqb-true _ _ e in cc

-- the plain tree of a tree of texts or binaries
pub canonical_bytes : (t : Tree) (vs : List (List ℕ)) (valid : Validity) → vs ≡ map bytes_or_empty (rows t) → valid ≡ validity (rows t) → is_bytes (tree_type t) ≡ true → var_bin_view vs (kept valid) (tree_type t) ≡ plain (column_of t)
canonical_bytes t vs valid items bits e = rw (items, bits, kept-validity (rows t)) (sym (plain_of-bytes (tree_type t) (rows t) e))
