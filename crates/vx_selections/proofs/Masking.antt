-- Stored columns under a mask: both conditions as the validity, and defaults beneath nulls.
use Rattle.std.proofs.Common.{◌≡◌, ℕ, suc, ℤ, pos, Bool, true, false, cond, List, [], ◌∷◌, length, map, Some, None, refl, sym, ap, ◌∙◌}
use Rattle.std.specs.List.{list_all}
use Rattle.std.proofs.lemmas.Bool.{and_from, and_parts, eq-eqb}
use Rattle.std.proofs.lemmas.List.{length-map}
use Rattle.vx_base.specs.declared.dtype.Nullability.{Nullability}
use Rattle.vx_base.specs.declared.dtype.Nullability.TheVariants.{NonNullable, Nullable}
use Rattle.vx_base.specs.declared.ptype.PType.{PType}
use Rattle.vx_base.specs.PlainScalar.{fits}
use Rattle.vx_base.specs.PlainType.{PlainType, or_nullable, nullability_of, with_nullability}
use Rattle.vx_base.specs.PlainType as types
use Rattle.vx_base.specs.PlainValue.{PlainValue, null, truth, int, bytes, is_short}
use Rattle.vx_model.specs.Column.{column, column_of}
use Rattle.vx_model.specs.Decoded.{zeroed}
use Rattle.vx_model.specs.Refusals.{kept, primitive_refusal, validity_length, var_bin_view_refusal}
use Rattle.vx_model.specs.Rows.{masked_rows, valid_rows}
use Rattle.vx_model.specs.Tree.{Validity, bool, primitive, var_bin_view}
use Rattle.vx_model.specs.WellFormed.{WellFormed, IsValidityOf}
use Rattle.vx_model.proofs.MadeLemmas.{rows_fit}
use Rattle.vx_model.proofs.ViewLemmas.{length-var_bin_view}
use Rattle.vx_rules.specs.Selections.{masked}
use Rattle.vx_selections.specs.Narrowed.{Restricts, also}
use Rattle.vx_selections.proofs.Leaves.{Stands}
use Rattle.vx_selections.proofs.Narrowing.{length-also, masked-also}
use Rattle.vx_selections.proofs.Restricting.{fit_restricted, is_bytes-with, nullability_of-bytes}
use Rattle.vx_selections.proofs.Validities.{admitted, kept-rows, own-length, view_admitted}

pub or-nullable : (n : Nullability) → or_nullable n Nullable ≡ Nullable
or-nullable NonNullable = refl
or-nullable Nullable = refl

module _ {A : Type 0} (value : A → PlainValue) (default : A) where
  under_bit : (b : Bool) (x : A) → cond b (value (cond b x default)) null ≡ cond b (value x) null
  under_bit true x = refl
  under_bit false x = refl

  -- what stands beneath a null is no row's
  masked-zeroed : (bits : List Bool) (xs : List A) → masked_rows bits (map value (zeroed default bits xs)) ≡ masked_rows bits (map value xs)
  masked-zeroed [] xs = refl
  masked-zeroed (b ∷ bits) [] = refl
  masked-zeroed (b ∷ bits) (x ∷ xs) = λ i. under_bit b x i ∷ masked-zeroed bits xs i

  length-zeroed : (bits : List Bool) (xs : List A) → length (zeroed default bits xs) ≡ length xs
  length-zeroed [] xs = refl
  length-zeroed (b ∷ bits) [] = refl
  length-zeroed (b ∷ bits) (x ∷ xs) = ap suc (length-zeroed bits xs)

  module _ (own : Validity) (keep : List Bool) (xs : List A) (n : Nullability) (h : IsValidityOf own (length xs) n) (l : length keep ≡ length xs) where
    also_long : length (also own keep) ≡ length xs
    also_long = length-also own keep (ap (validity_length own) l ∙ own-length own (length xs) n h) ∙ l

    pub zeroed_long : validity_length (Some (also own keep)) (length xs) ≡ true
    zeroed_long = eq-eqb _ _ also_long

    pub masked_admitted : primitive_refusal (length (zeroed default (also own keep) xs)) (Some (also own keep)) Nullable ≡ None
    masked_admitted = admitted (Some (also own keep)) _ Nullable (eq-eqb _ _ (also_long ∙ sym (length-zeroed (also own keep) xs))) refl

    pub masked_leaf : valid_rows (kept (Some (also own keep))) (map value (zeroed default (also own keep) xs)) ≡ masked_rows keep (valid_rows own (map value xs))
    masked_leaf =
        let ys = zeroed default (also own keep) xs in
        kept-rows (Some (also own keep)) (map value ys) (eq-eqb _ _ (also_long ∙ sym (length-zeroed (also own keep) xs) ∙ sym (length-map ys value)))
        ∙ masked-zeroed (also own keep) xs ∙ masked-also own keep (map value xs)

-- ---- by the kind of the items

pub bool_masked : (bs : List Bool) (own : Validity) (n : Nullability) (keep ys : List Bool) (bits : List Bool) → WellFormed (bool bs own n) → length keep ≡ length bs → bits ≡ also own keep → ys ≡ zeroed false bits bs
    → Stands (masked (column_of (bool bs own n)) keep) (primitive_refusal (length ys) (Some bits) Nullable) (bool ys (kept (Some bits)) Nullable)
bool_masked bs own n keep ys bits w l is y =
    let made = y ∙ ap (λ b. zeroed false b bs) is in
    record {
      accepted = (λ i. primitive_refusal (length (made i)) (Some (is i)) Nullable) ∙ masked_admitted truth false own keep bs n w.0 l;
      column = (λ i. column (types.boolean Nullable) (valid_rows (kept (Some (is i))) (map truth (made i)))) ∙ ap (column (types.boolean Nullable)) (masked_leaf truth false own keep bs n w.0 l);
    }

pub ints_masked : (p : PType) (xs : List ℤ) (own : Validity) (n : Nullability) (keep : List Bool) (q : PType) (ys : List ℤ) (bits : List Bool) → WellFormed (primitive p xs own n) → length keep ≡ length xs → bits ≡ also own keep → q ≡ p → ys ≡ zeroed (pos 0) bits xs
    → Stands (masked (column_of (primitive p xs own n)) keep) (primitive_refusal (length ys) (Some bits) Nullable) (primitive q ys (kept (Some bits)) Nullable)
ints_masked p xs own n keep q ys bits w l is k y =
    let made = y ∙ ap (λ b. zeroed (pos 0) b xs) is in
    record {
      accepted = (λ i. primitive_refusal (length (made i)) (Some (is i)) Nullable) ∙ masked_admitted int (pos 0) own keep xs n w.0.validity l;
      column = (λ i. column (types.primitive (k i) Nullable) (valid_rows (kept (Some (is i))) (map int (made i)))) ∙ ap (column (types.primitive p Nullable)) (masked_leaf int (pos 0) own keep xs n w.0.validity l);
    }

short-zeroed : (bits : List Bool) (vs : List (List ℕ)) → list_all is_short vs ≡ true → list_all is_short (zeroed [] bits vs) ≡ true
short-zeroed [] vs h = h
short-zeroed (b ∷ bits) [] h = refl
short-zeroed (true ∷ bits) (v ∷ vs) h = let a = and_parts (is_short v) (list_all is_short vs) h in and_from _ _ a.0 (short-zeroed bits vs a.1)
short-zeroed (false ∷ bits) (v ∷ vs) h = let a = and_parts (is_short v) (list_all is_short vs) h in and_from _ _ refl (short-zeroed bits vs a.1)

pub view_masked : (vs : List (List ℕ)) (own : Validity) (t : PlainType) (keep : List Bool) (ys : List (List ℕ)) (bits : List Bool) (s : PlainType) → WellFormed (var_bin_view vs own t) → length keep ≡ length vs → bits ≡ also own keep → ys ≡ zeroed [] bits vs → s ≡ with_nullability t Nullable
    → Stands (masked (column_of (var_bin_view vs own t)) keep) (var_bin_view_refusal ys (Some bits) s) (var_bin_view ys (kept (Some bits)) s)
view_masked vs own t keep ys bits s w l is y e =
    let wide = with_nullability t Nullable in
    let c = column_of (var_bin_view vs own t) in
    let made = y ∙ ap (λ b. zeroed [] b vs) is in
    let all = masked_leaf bytes [] own keep vs (nullability_of t) w.0.validity l in
    let n = nullability_of-bytes t Nullable w.0.byte_type in
    let r : Restricts (Some keep) Nullable c = record { long = eq-eqb _ _ (l ∙ sym (length-var_bin_view vs own t w)); allowed = refl; wider = or-nullable (nullability_of t) } in
    let fit = ap (list_all (fits wide)) all ∙ fit_restricted c (Some keep) Nullable n r (rows_fit (var_bin_view vs own t) w) in
    let own_admitted = ap (primitive_refusal (length (zeroed [] (also own keep) vs)) (Some (also own keep))) n ∙ masked_admitted bytes [] own keep vs (nullability_of t) w.0.validity l in
    record {
      accepted =
          (λ i. var_bin_view_refusal (made i) (Some (is i)) (e i))
          ∙ view_admitted (zeroed [] (also own keep) vs) (Some (also own keep)) wide (is_bytes-with t Nullable w.0.byte_type) (short-zeroed (also own keep) vs w.0.short) own_admitted fit;
      column = (λ i. column (e i) (valid_rows (kept (Some (is i))) (map bytes (made i)))) ∙ ap (column wide) all;
    }
