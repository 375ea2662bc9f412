-- Truth values: their rows, that a constructor's tree is well formed, and when it is plain.
use Rattle.std.proofs.Common.{◌≡◌, ◌↔◌, ◌<◌, ℕ, List, [], ◌∷◌, length, map, refl, sym, ap, ◌∙◌, Bool, true, false, cond, None}
use Rattle.std.specs.Prelude.{not, is_some, slice_index_or}
use Rattle.std.specs.List.{list_all, list_any}
use Rattle.vx_base.specs.declared.dtype.Nullability.{Nullability}
use Rattle.vx_base.specs.PlainScalar.{fits}
use Rattle.vx_base.specs.PlainType as types
use Rattle.vx_base.specs.PlainValue.{null, truth, is_null, truth_or_false}
use Rattle.vx_model.specs.Column.{column_of}
use Rattle.vx_model.specs.Decoded.{zeroed_by, zero_beneath_by}
use Rattle.vx_model.specs.Plain.{IsPlain, plain, plain_of, validity}
use Rattle.vx_model.specs.Refusals.{kept, primitive_refusal}
use Rattle.vx_model.specs.Rows.{rows, row_at, is_valid_at}
use Rattle.vx_model.specs.Tree.{Tree, Validity, bool}
use Rattle.vx_model.specs.TreeType.{tree_type}
use Rattle.vx_model.specs.WellFormed.{WellFormed, IsValidityOf}
use Rattle.vx_model.proofs.DecodeLemmas.{kept-validity}
use Rattle.vx_model.proofs.FlatLemmas.{length-flat, row_at-flat, any_null-flat, validity-flat, items-flat, same_beneath}
use Rattle.vx_model.proofs.MadeLemmas.{kept_validity, valid_fit}
use Rattle.vx_model.proofs.PackedLemmas.{passed}

truths_fit : (n : Nullability) (bs : List Bool) → list_all (fits (types.boolean n)) (map truth bs) ≡ true
truths_fit n [] = refl
truths_fit n (b ∷ bs) = truths_fit n bs

-- a constructor's tree is well formed, where nothing is refused
pub bool_accepted : (bs : List Bool) (valid : Validity) (n : Nullability) → primitive_refusal (length bs) valid n ≡ None → WellFormed (bool bs (kept valid) n)
bool_accepted bs valid n h =
    let l = passed _ _ _ h in
    let a = passed _ _ _ l.1 in
    let v : IsValidityOf (kept valid) (length bs) n = kept_validity valid (length bs) n l.0 a.0 in
    (v, valid_fit (kept valid) (types.boolean n) (length bs) (map truth bs) v (truths_fit n bs))

module _ (bs : List Bool) (valid : Validity) (n : Nullability) (h : WellFormed (bool bs valid n)) where
  pub length-bool : length (rows (bool bs valid n)) ≡ length bs
  length-bool = length-flat truth (λ b. refl) bs valid n h.0

  pub row_at-bool : (i : ℕ) → i < length bs → row_at (rows (bool bs valid n)) i ≡ cond (is_valid_at valid i) (truth (slice_index_or bs i false)) null
  row_at-bool i l = row_at-flat truth (λ b. refl) bs valid n h.0 false i l

  pub any_null-bool : list_any is_null (rows (bool bs valid n)) ≡ is_some valid
  any_null-bool = any_null-flat truth (λ b. refl) bs valid n h.0

  pub validity-bool : validity (rows (bool bs valid n)) ≡ valid
  validity-bool = validity-flat truth (λ b. refl) bs valid n h.0

  -- the truth values, false beneath nulls
  pub items-bool : map truth_or_false (rows (bool bs valid n)) ≡ zeroed_by false valid bs
  items-bool = items-flat truth (λ b. refl) bs valid n h.0 truth_or_false (λ b. refl)

  plain_by : plain (column_of (bool bs valid n)) ≡ bool (zeroed_by false valid bs) valid n
  plain_by = λ i. bool (items-bool i) (validity-bool i) n

  pub plain-bool : (zero_beneath_by not valid bs ≡ true) ↔ IsPlain (bool bs valid n)
  plain-bool =
      let same = same_beneath false not is_false refl valid bs in (
        λ z. ap (λ ys. bool ys valid n) (sym (same.0 z)) ∙ sym plain_by,
        λ q. same.1 (let s : bool (zeroed_by false valid bs) valid n ≡ bool bs valid n = sym (q ∙ plain_by) in cc),
      )
    where
      is_false : (b : Bool) → not b ≡ true → b ≡ false
      is_false true e = absurd cc
      is_false false e = refl

-- the plain tree of a tree of truth values
pub canonical_bool : (t : Tree) (n : Nullability) (bs : List Bool) (valid : Validity) → bs ≡ map truth_or_false (rows t) → valid ≡ validity (rows t) → tree_type t ≡ types.boolean n → bool bs (kept valid) n ≡ plain (column_of t)
canonical_bool t n bs valid items bits e = rw (items, bits, kept-validity (rows t)) (sym (ap (λ s. plain_of s (rows t)) e))
