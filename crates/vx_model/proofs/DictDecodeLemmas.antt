-- The decoding of a dictionary: values with defaults beneath nulls, validity, and which rows are null.
use Rattle.std.proofs.Common.{◌≡◌, ◌<◌, ◌∙◌, ℕ, zero, suc, ℤ, pos, List, [], ◌∷◌, length, map, refl, ap, sym, arith, Bool, true, false, cond, Some, None}
use Rattle.std.specs.Prelude.{◌&&◌, ◌||◌, not, slice_index_or}
use Rattle.std.specs.List.{list_all, list_any, range_with_len}
use Rattle.std.proofs.lemmas.Bool.{and_parts, cond_both, or_parts, ltb-true}
use Rattle.std.proofs.lemmas.List.{length-map, get_or-map}
use Rattle.std.proofs.lemmas.List.FromFn.{fill_by_all}
use Rattle.vx_base.specs.declared.ptype.PType.{PType}
use Rattle.vx_base.specs.Defaults.{default_of}
use Rattle.vx_base.specs.PlainType.{PlainType, nullability_of, or_nullable}
use Rattle.vx_base.specs.PlainValue.{PlainValue, null, int, is_null, whole_or_zero}
use Rattle.vx_base.proofs.TypeLemmas.{default_of-with}
use Rattle.vx_model.specs.Tree.{Tree, dict}
use Rattle.vx_model.specs.Decoded.{zeroed, zeroed_by, picked, picks_valid}
use Rattle.vx_model.specs.Plain.{validity, valid_bits}
use Rattle.vx_model.specs.Refusals.{kept}
use Rattle.vx_model.specs.Rows.{rows, row_at, looked_up, is_valid_at}
use Rattle.vx_model.specs.TreeType.{dict_type}
use Rattle.vx_model.specs.WellFormed.{WellFormed, is_place}
use Rattle.vx_model.proofs.DecodeLemmas.{length-valid_bits, all_valid_bits}
use Rattle.vx_model.proofs.FrameOfReferenceLemmas.{row_passes}

-- ---- the items that codes pick, by any function of the values

module _ {A : Type 0} (f : PlainValue → A) where
  item_at : (vs : List PlainValue) (k : ℕ) → f (row_at vs k) ≡ slice_index_or (map f vs) k (f null)
  item_at [] k = refl
  item_at (v ∷ vs) zero = refl
  item_at (v ∷ vs) (suc k) = item_at vs k

  module _ (p : PType) (vs : List PlainValue) where
    abbrev picked_item : ℤ → A
    picked_item z = picked p (map f vs) (f null) z

    items_bits : (rs : List PlainValue) → list_all (is_place (length vs)) rs ≡ true → map f (map (looked_up vs) rs) ≡ zeroed (f null) (valid_bits rs) (map picked_item (map whole_or_zero rs))
    items_bits [] h = refl
    items_bits (null ∷ rs) h = ap (λ xs. f null ∷ xs) (items_bits rs h)
    items_bits (int (pos k) ∷ rs) h = λ i. item_at vs k i ∷ items_bits rs (and_parts _ _ h).1 i
    items_bits (v ∷ rs) h = absurd cc

    items_all : (rs : List PlainValue) → list_all (is_place (length vs)) rs ≡ true → list_any is_null rs ≡ false → map f (map (looked_up vs) rs) ≡ map picked_item (map whole_or_zero rs)
    items_all [] h e = refl
    items_all (int (pos k) ∷ rs) h e = λ i. item_at vs k i ∷ items_all rs (and_parts _ _ h).1 e i
    items_all (v ∷ rs) h e = absurd cc

  pub map-dict : (codes values : Tree) (p : PType) → WellFormed (dict codes values)
      → map f (rows (dict codes values)) ≡ zeroed_by (f null) (validity (rows codes)) (map (picked p (map f (rows values)) (f null)) (map whole_or_zero (rows codes)))
  map-dict codes values p h =
      cond_both (list_any is_null (rows codes)) (Some (valid_bits (rows codes))) None
      (λ valid. map f (rows (dict codes values)) ≡ zeroed_by (f null) valid (map (picked p (map f (rows values)) (f null)) (map whole_or_zero (rows codes))))
      (λ some. items_bits p (rows values) (rows codes) h.2.places) (λ none. items_all p (rows values) (rows codes) h.2.places none)

-- ---- nulls, where no value is null

valid_value : (vs : List PlainValue) (k : ℕ) → k < length vs → list_any is_null vs ≡ false → is_null (row_at vs k) ≡ false
valid_value [] k l e = absurd (omega arith)
valid_value (v ∷ vs) zero l e = (or_parts _ _ e).0
valid_value (v ∷ vs) (suc k) l e = valid_value vs k (omega arith) (or_parts _ _ e).1

module _ (vs : List PlainValue) (none : list_any is_null vs ≡ false) where
  is_null-looked_up : (r : PlainValue) → is_place (length vs) r ≡ true → is_null (looked_up vs r) ≡ is_null r
  is_null-looked_up null h = refl
  is_null-looked_up (int (pos k)) h = valid_value vs k (ltb-true _ _ h) none
  is_null-looked_up v h = absurd cc

  any_null-looked_up : (rs : List PlainValue) → list_all (is_place (length vs)) rs ≡ true → list_any is_null (map (looked_up vs) rs) ≡ list_any is_null rs
  any_null-looked_up [] h = refl
  any_null-looked_up (r ∷ rs) h = let b = and_parts _ _ h in rw (is_null-looked_up r b.0, any_null-looked_up rs b.1) refl

  bits-looked_up : (rs : List PlainValue) → list_all (is_place (length vs)) rs ≡ true → valid_bits (map (looked_up vs) rs) ≡ valid_bits rs
  bits-looked_up [] h = refl
  bits-looked_up (r ∷ rs) h = let b = and_parts _ _ h in λ i. not (is_null-looked_up r b.0 i) ∷ bits-looked_up rs b.1 i

-- a null code's row is null
any_null-code : (vs rs : List PlainValue) → list_any is_null rs ≡ true → list_any is_null (map (looked_up vs) rs) ≡ true
any_null-code vs [] e = absurd cc
any_null-code vs (null ∷ rs) e = refl
any_null-code vs (r ∷ rs) e = right (is_null (looked_up vs r)) (any_null-code vs rs e)
  where
    right : (b : Bool) → list_any is_null (map (looked_up vs) rs) ≡ true → (b || list_any is_null (map (looked_up vs) rs)) ≡ true
    right true h = refl
    right false h = h

pub any_null-codes : (codes values : Tree) → list_any is_null (rows codes) ≡ true → list_any is_null (rows (dict codes values)) ≡ true
any_null-codes codes values e = any_null-code (rows values) (rows codes) e

module _ (codes values : Tree) (h : WellFormed (dict codes values)) where
  pub any_null-dict : list_any is_null (rows values) ≡ false → list_any is_null (rows (dict codes values)) ≡ list_any is_null (rows codes)
  any_null-dict none = any_null-looked_up (rows values) none (rows codes) h.2.places

  pub validity-dict_codes : list_any is_null (rows values) ≡ false → validity (rows (dict codes values)) ≡ validity (rows codes)
  validity-dict_codes none = rw (any_null-looked_up (rows values) none (rows codes) h.2.places, bits-looked_up (rows values) none (rows codes) h.2.places) refl

-- ---- validity, row by row

no_null_at : (rs : List PlainValue) (k : ℕ) → k < length rs → list_any is_null rs ≡ false → true ≡ not (is_null (row_at rs k))
no_null_at rs k l e = ap not (sym (valid_value rs k l e))

pub valid_at : (rs : List PlainValue) (k : ℕ) → k < length rs → is_valid_at (validity rs) k ≡ not (is_null (row_at rs k))
valid_at rs k l =
    cond_both (list_any is_null rs) (Some (valid_bits rs)) None (λ valid. is_valid_at valid k ≡ not (is_null (row_at rs k)))
    (λ some. get_or-map (λ v. not (is_null v)) rs k null false l) (λ none. no_null_at rs k l none)

bit_at : (vs : List PlainValue) (k : ℕ) → not (is_null (row_at vs k)) ≡ slice_index_or (valid_bits vs) k false
bit_at [] k = refl
bit_at (v ∷ vs) zero = refl
bit_at (v ∷ vs) (suc k) = bit_at vs k

module _ (p : PType) (vs : List PlainValue) where
  picks : (r : PlainValue) → is_place (length vs) r ≡ true → not (is_null (looked_up vs r)) ≡ (not (is_null r) && picked p (valid_bits vs) false (whole_or_zero r))
  picks null h = refl
  picks (int (pos k)) h = bit_at vs k
  picks v h = absurd cc

  bit_of_row : (rs : List PlainValue) (k : ℕ) → list_all (is_place (length vs)) rs ≡ true → k < length rs
      → slice_index_or (valid_bits (map (looked_up vs) rs)) k false ≡ picks_valid p (valid_bits vs) (validity rs) (map whole_or_zero rs) k
  bit_of_row rs k h l =
      let r = row_at rs k in
      let within = length-map rs (looked_up vs) in
      let bit = get_or-map (λ v. not (is_null v)) (map (looked_up vs) rs) k null false (omega (arith, within)) in
      let row = ap (λ v. not (is_null v)) (get_or-map (looked_up vs) rs k null null l) in
      let valid = valid_at rs k l in
      let whole = get_or-map whole_or_zero rs k null (pos 0) l in
      bit ∙ row ∙ picks r (row_passes (is_place (length vs)) rs k l h) ∙ (λ i. sym valid i && picked p (valid_bits vs) false (sym whole i))

kept-valid_bits : (rs : List PlainValue) → kept (Some (valid_bits rs)) ≡ validity rs
kept-valid_bits rs = rw (all_valid_bits rs) (turned (list_any is_null rs))
  where
    turned : (b : Bool) → cond (not b) None (Some (valid_bits rs)) ≡ cond b (Some (valid_bits rs)) None
    turned true = refl
    turned false = refl

pub validity-dict : (codes values : Tree) (p : PType) → WellFormed (dict codes values)
    → kept (Some (map (picks_valid p (valid_bits (rows values)) (validity (rows codes)) (map whole_or_zero (rows codes))) (range_with_len 0 (length (rows codes))))) ≡ validity (rows (dict codes values))
validity-dict codes values p h =
    let rs = rows (dict codes values) in
    let len = length-valid_bits rs ∙ length-map (rows codes) (looked_up (rows values)) in
    let bits = fill_by_all (picks_valid p (valid_bits (rows values)) (validity (rows codes)) (map whole_or_zero (rows codes))) (valid_bits rs) (length (rows codes)) false len
    (λ k l. bit_of_row p (rows values) (rows codes) k h.2.places l) in
    ap (λ b. kept (Some b)) (sym bits) ∙ kept-valid_bits rs

pub default_of-dict : (codes values : PlainType) → default_of (dict_type codes values) ≡ default_of values
default_of-dict codes values = default_of-with values (or_nullable (nullability_of values) (nullability_of codes))
