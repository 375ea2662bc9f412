-- Stored columns taken by stored indices: admitted, and the column that the rule gives.
use Rattle.std.proofs.Common.{◌≡◌, ℕ, zero, suc, ℤ, pos, Bool, true, false, List, [], ◌∷◌, length, map, None, refl, ap, ◌∙◌}
use Rattle.std.specs.Prelude.{slice_index_or}
use Rattle.std.specs.List.{list_all}
use Rattle.std.proofs.lemmas.Bool.{and_from, and_parts}
use Rattle.vx_base.specs.declared.dtype.Nullability.{Nullability}
use Rattle.vx_base.specs.declared.ptype.PType.{PType}
use Rattle.vx_base.specs.PlainScalar.{fits}
use Rattle.vx_base.specs.Integers.{bits_in}
use Rattle.vx_base.specs.PlainType.{PlainType, is_bytes, is_flat, nullability_of, or_nullable}
use Rattle.vx_base.specs.PlainType as types
use Rattle.vx_base.specs.PlainValue.{truth, int, bytes, is_short}
use Rattle.vx_model.specs.Column.{column, column_of}
use Rattle.vx_model.specs.Decoded.{picked}
use Rattle.vx_model.specs.Refusals.{kept, dict_refusal, primitive_refusal, var_bin_view_refusal}
use Rattle.vx_model.specs.Rows.{rows, looked_up, valid_rows}
use Rattle.vx_model.specs.Tree.{Tree, Validity, bool, primitive, var_bin_view, dict}
use Rattle.vx_model.specs.TreeType.{dict_type}
use Rattle.vx_model.specs.WellFormed.{WellFormed, is_place}
use Rattle.vx_model.proofs.BoolLemmas.{length-bool}
use Rattle.vx_model.proofs.DictLemmas.{dict_accepted}
use Rattle.vx_model.proofs.MadeLemmas.{rows_fit}
use Rattle.vx_model.proofs.RowLemmas.{length-primitive}
use Rattle.vx_model.proofs.ViewLemmas.{length-var_bin_view}
use Rattle.vx_rules.specs.Selections.{taken}
use Rattle.vx_values.specs.Codes.{validity_by_codes}
use Rattle.vx_selections.proofs.Leaves.{Stands}
use Rattle.vx_selections.proofs.Restricting.{is_bytes-with, nullability_of-bytes}
use Rattle.vx_selections.proofs.Taking.{taken_admitted, taken_rows}
use Rattle.vx_selections.proofs.Validities.{pass, view_admitted}

flat_bytes : (t : PlainType) → is_bytes t ≡ true → is_flat t ≡ true
flat_bytes (types.utf8 n) e = refl
flat_bytes (types.binary n) e = refl
flat_bytes t e = absurd cc

module _ (q : PType) (zs : List ℤ) (codes : Validity) (m : Nullability) (k : WellFormed (primitive q zs codes m)) where
  abbrev indices : Tree
  indices = primitive q zs codes m

  module _ (bs : List Bool) (own : Validity) (n : Nullability) (w : WellFormed (bool bs own n)) (places : list_all (is_place (length bs)) (rows indices) ≡ true) where
    own_places : list_all (is_place (length (rows (bool bs own n)))) (rows indices) ≡ true
    own_places = ap (λ len. list_all (is_place len) (rows indices)) (length-bool bs own n w) ∙ places

    pub bool_taken : (ys : List Bool) (bits : Validity) → ys ≡ map (λ code. picked q bs false code) zs → bits ≡ validity_by_codes q zs codes own
        → Stands (taken (column_of (bool bs own n)) (column_of indices)) (primitive_refusal (length ys) bits (or_nullable n m)) (bool ys (kept bits) (or_nullable n m))
    bool_taken ys bits y b = record {
      accepted = (λ i. primitive_refusal (length (y i)) (b i) (or_nullable n m)) ∙ taken_admitted truth (λ x. refl) false q bs own n w.0 zs codes m k.0.validity own_places;
      column = (λ i. column_of (bool (y i) (kept (b i)) (or_nullable n m))) ∙ ap (column (types.boolean (or_nullable n m))) (taken_rows truth (λ x. refl) false q bs own n w.0 zs codes m k.0.validity own_places);
    }

  module _ (p : PType) (xs : List ℤ) (own : Validity) (n : Nullability) (w : WellFormed (primitive p xs own n)) (places : list_all (is_place (length xs)) (rows indices) ≡ true) where
    ints_places : list_all (is_place (length (rows (primitive p xs own n)))) (rows indices) ≡ true
    ints_places = ap (λ len. list_all (is_place len) (rows indices)) (length-primitive p xs own n w) ∙ places

    pub ints_taken : (r : PType) (ys : List ℤ) (bits : Validity) → r ≡ p → ys ≡ map (λ code. picked q xs (pos 0) code) zs → bits ≡ validity_by_codes q zs codes own
        → Stands (taken (column_of (primitive p xs own n)) (column_of indices)) (primitive_refusal (length ys) bits (or_nullable n m)) (primitive r ys (kept bits) (or_nullable n m))
    ints_taken r ys bits e y b = record {
      accepted = (λ i. primitive_refusal (length (y i)) (b i) (or_nullable n m)) ∙ taken_admitted int (λ x. refl) (pos 0) q xs own n w.0.validity zs codes m k.0.validity ints_places;
      column =
          (λ i. column_of (primitive (e i) (y i) (kept (b i)) (or_nullable n m)))
          ∙ ap (column (types.primitive p (or_nullable n m))) (taken_rows int (λ x. refl) (pos 0) q xs own n w.0.validity zs codes m k.0.validity ints_places);
    }

  module _ (vs : List (List ℕ)) (own : Validity) (t : PlainType) (w : WellFormed (var_bin_view vs own t)) (places : list_all (is_place (length vs)) (rows indices) ≡ true) where
    view_places : list_all (is_place (length (rows (var_bin_view vs own t)))) (rows indices) ≡ true
    view_places = ap (λ len. list_all (is_place len) (rows indices)) (length-var_bin_view vs own t w) ∙ places

    short_at : (vs : List (List ℕ)) (i : ℕ) → list_all is_short vs ≡ true → is_short (slice_index_or vs i []) ≡ true
    short_at [] i h = refl
    short_at (v ∷ vs) zero h = (and_parts (is_short v) (list_all is_short vs) h).0
    short_at (v ∷ vs) (suc i) h = short_at vs i (and_parts (is_short v) (list_all is_short vs) h).1

    short_picked : (zs : List ℤ) → list_all is_short (map (λ code. picked q vs [] code) zs) ≡ true
    short_picked [] = refl
    short_picked (z ∷ zs) = and_from _ _ (short_at vs (bits_in q z) w.0.short) (short_picked zs)

    abbrev wide : PlainType
    wide = dict_type (types.primitive q m) t

    abbrev picked_bytes : List (List ℕ)
    picked_bytes = map (λ code. picked q vs [] code) zs

    all : valid_rows (kept (validity_by_codes q zs codes own)) (map bytes picked_bytes) ≡ map (looked_up (rows (var_bin_view vs own t))) (rows indices)
    all = taken_rows bytes (λ x. refl) [] q vs own (nullability_of t) w.0.validity zs codes m k.0.validity view_places

    fit : list_all (fits wide) (valid_rows (kept (validity_by_codes q zs codes own)) (map bytes picked_bytes)) ≡ true
    fit =
        let admitted : dict_refusal indices (var_bin_view vs own t) ≡ None = pass _ _ _ (flat_bytes t w.0.byte_type) (pass _ _ _ view_places refl) in
        ap (list_all (fits wide)) all ∙ rows_fit (dict indices (var_bin_view vs own t)) (dict_accepted indices (var_bin_view vs own t) admitted k w)

    bytes_admitted : var_bin_view_refusal picked_bytes (validity_by_codes q zs codes own) wide ≡ None
    bytes_admitted =
        view_admitted picked_bytes (validity_by_codes q zs codes own) wide (is_bytes-with t (or_nullable (nullability_of t) m) w.0.byte_type) (short_picked zs)
        (ap (primitive_refusal (length picked_bytes) (validity_by_codes q zs codes own)) (nullability_of-bytes t (or_nullable (nullability_of t) m) w.0.byte_type)
        ∙ taken_admitted bytes (λ x. refl) [] q vs own (nullability_of t) w.0.validity zs codes m k.0.validity view_places)
        fit

    pub view_taken : (ys : List (List ℕ)) (bits : Validity) (s : PlainType) → ys ≡ picked_bytes → bits ≡ validity_by_codes q zs codes own → s ≡ wide
        → Stands (taken (column_of (var_bin_view vs own t)) (column_of indices)) (var_bin_view_refusal ys bits s) (var_bin_view ys (kept bits) s)
    view_taken ys bits s y b e = record {
      accepted = (λ i. var_bin_view_refusal (y i) (b i) (e i)) ∙ bytes_admitted;
      column = (λ i. column_of (var_bin_view (y i) (kept (b i)) (e i))) ∙ ap (column wide) all;
    }
