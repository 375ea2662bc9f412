-- Stored truth values, texts and binaries as a tree of another type that their rows are of.
use Rattle.std.proofs.Common.{◌≡◌, ◌<◌, ◌∙◌, ℕ, zero, suc, Bool, true, false, List, [], ◌∷◌, length, map, Some, None, refl, ap, arith}
use Rattle.std.specs.Prelude.{◌||◌, replicate}
use Rattle.std.specs.List.{list_all}
use Rattle.std.proofs.lemmas.Bool.{and_from, and_parts, eqb-true}
use Rattle.std.proofs.lemmas.List.{length-map}
use Rattle.vx_base.specs.declared.dtype.Nullability.{Nullability}
use Rattle.vx_base.specs.PlainScalar.{fits}
use Rattle.vx_base.specs.PlainType.{PlainType, allows_null, is_bytes, is_nullable, nullability_of}
use Rattle.vx_base.specs.PlainType as types
use Rattle.vx_base.specs.PlainValue.{PlainValue, bytes, null, truth}
use Rattle.vx_model.specs.Column.{column, column_of}
use Rattle.vx_model.specs.Refusals.{kept, primitive_refusal, validity_allowed, validity_length, var_bin_view_refusal}
use Rattle.vx_model.specs.Rows.{masked_rows, valid_rows}
use Rattle.vx_model.specs.Tree.{Validity, bool, var_bin_view}
use Rattle.vx_model.specs.WellFormed.{WellFormed}
use Rattle.vx_model.proofs.MadeLemmas.{has_length}
use Rattle.vx_rows.proofs.HeldLemmas.{kept-rows, pass}

all-valid : (t : PlainType) (bits : List Bool) (xs : List PlainValue) → fits t null ≡ false → length bits ≡ length xs → list_all (fits t) (masked_rows bits xs) ≡ true → list_all (λ bit. bit) bits ≡ true
all-valid t [] xs n e h = refl
all-valid t (b ∷ bits) [] n e h = absurd (omega arith)
all-valid t (true ∷ bits) (x ∷ xs) n e h = all-valid t bits xs n (omega arith) (and_parts (fits t x) (list_all (fits t) (masked_rows bits xs)) h).1
all-valid t (false ∷ bits) (x ∷ xs) n e h = let no : fits t null ≡ true = (and_parts (fits t null) (list_all (fits t) (masked_rows bits xs)) h).0 in absurd cc

-- rows of a type have only the validity that its nullability allows
rows-allowed : (t : PlainType) (valid : Validity) (xs : List PlainValue) → validity_length valid (length xs) ≡ true → list_all (fits t) (valid_rows valid xs) ≡ true → validity_allowed valid (nullability_of t) ≡ true
rows-allowed t None xs l h = refl
rows-allowed t (Some bits) xs l h = by (is_nullable t) refl
  where
    by : (b : Bool) → is_nullable t ≡ b → (allows_null (nullability_of t) || list_all (λ bit. bit) bits) ≡ true
    by true e = ap (λ b. b || list_all (λ bit. bit) bits) e
    by false e = ap (λ b. b || list_all (λ bit. bit) bits) e ∙ all-valid t bits xs e (eqb-true (length bits) (length xs) l) h

module _ (bs : List Bool) (valid : Validity) (own n : Nullability) (w : WellFormed (bool bs valid own)) (h : list_all (fits (types.boolean n)) (valid_rows valid (map truth bs)) ≡ true) where
  whole-bits : validity_length valid (length bs) ≡ true
  whole-bits = has_length valid (length bs) own w.0

  whole-truths : validity_length valid (length (map truth bs)) ≡ true
  whole-truths = ap (validity_length valid) (length-map bs truth) ∙ whole-bits

  pub bool-accepted : primitive_refusal (length bs) valid n ≡ None
  bool-accepted = pass _ _ _ whole-bits (pass _ _ _ (rows-allowed (types.boolean n) valid (map truth bs) whole-truths h) refl)

  pub bool-made : column_of (bool bs (kept valid) n) ≡ column (types.boolean n) (valid_rows valid (map truth bs))
  bool-made = ap (column (types.boolean n)) (kept-rows valid (map truth bs) whole-truths)

module _ (vs : List (List ℕ)) (valid : Validity) (own t : PlainType) (w : WellFormed (var_bin_view vs valid own)) (b : is_bytes t ≡ true) (h : list_all (fits t) (valid_rows valid (map bytes vs)) ≡ true) where
  whole-rows : validity_length valid (length vs) ≡ true
  whole-rows = has_length valid (length vs) (nullability_of own) w.0.validity

  whole-bytes : validity_length valid (length (map bytes vs)) ≡ true
  whole-bytes = ap (validity_length valid) (length-map vs bytes) ∙ whole-rows

  same-bytes : valid_rows (kept valid) (map bytes vs) ≡ valid_rows valid (map bytes vs)
  same-bytes = kept-rows valid (map bytes vs) whole-bytes

  pub view-accepted : var_bin_view_refusal vs valid t ≡ None
  view-accepted =
      pass _ _ _ b
      (pass _ _ _ whole-rows
      (pass _ _ _ w.0.short
      (pass _ _ _ (and_from _ _ (rows-allowed t valid (map bytes vs) whole-bytes h) (ap (list_all (fits t)) same-bytes ∙ h)) refl)))

  pub view-made : column_of (var_bin_view vs (kept valid) t) ≡ column t (valid_rows valid (map bytes vs))
  view-made = ap (column t) same-bytes

pub first-fits : (t : PlainType) (v : PlainValue) (n : ℕ) → 0 < n → list_all (fits t) (replicate n v) ≡ true → fits t v ≡ true
first-fits t v zero k h = absurd (omega (arith, k))
first-fits t v (suc n) k h = (and_parts (fits t v) (list_all (fits t) (replicate n v)) h).0
