-- Rows that are filled by runs or by patches: what they are decoded to.
use Rattle.std.proofs.Common.{◌≡◌, ◌<◌, ◌+◌, ◌∙◌, ℕ, zero, suc, List, [], ◌∷◌, length, map, get_or, refl, ap, sym, arith, Bool, true, false, cond, Option, Some, None}
use Rattle.std.specs.Prelude.{not, replicate, unwrap_or}
use Rattle.std.specs.List.{list_any, range_with_len}
use Rattle.std.proofs.lemmas.Bool.{cond_both, or_parts}
use Rattle.std.proofs.lemmas.List.Quantifiers.{position-Some}
use Rattle.vx_base.specs.Defaults.{default_of, or_default}
use Rattle.vx_base.specs.PlainScalar.{PlainScalar}
use Rattle.vx_base.specs.PlainType.{is_flat, is_integer, is_nullable}
use Rattle.vx_base.specs.PlainValue.{PlainValue, null, int, is_null}
use Rattle.vx_model.specs.Plain.{validity, valid_bits}
use Rattle.vx_model.specs.Refusals.{kept}
use Rattle.vx_model.specs.Rows.{rows, row_at, below, is_index, place_of, patched, run_value}
use Rattle.vx_model.specs.Tree.{Tree, Validity, PlainPatches, run_end, sparse_of}
use Rattle.vx_model.specs.TreeType.{tree_type}
use Rattle.vx_model.specs.WellFormed.{WellFormed, WellFormedPatches}
use Rattle.vx_model.proofs.DecodeLemmas.{all_valid_bits}
use Rattle.vx_model.proofs.PatchedLemmas.{patched-place, patched-fill}
use Rattle.vx_model.proofs.RunEndLemmas.{last_end}
use Rattle.vx_model.proofs.SparseLemmas.{rows-sparse_of, type-sparse_of}
use Rattle.vx_values.specs.declared.decoded.Decoded.{Decoded}
use Rattle.vx_values.specs.declared.ints.Ints.{Ints}
use Rattle.vx_values.specs.IntsOf.{wholes_of}
use Rattle.vx_values.specs.Placed.{run_of_row, by_runs, patch_place, by_patches, bits_in_rows, validity_by_runs, validity_by_patches}
use Rattle.vx_values.specs.ValuesOf.{kind_of, kind_in, values_of, default_in, AreRows}
use Rattle.vx_values.proofs.Placed.{by_runs-is, by_patches-is, stand-by_runs, stand-by_patches}
use Rattle.vx_array.specs.IsDecoded.{IsDecoded}
use Rattle.vx_array.specs.Lent.{AreIntegers}
use Rattle.vx_array.proofs.Decodings.{default_of_kind, wholes-rows}
use Rattle.vx_array.proofs.Flat.{integer_flat}
use Rattle.vx_flat.proofs.RunPlaces.{below-same, run_value-number}

-- bits of which some is false are kept
kept-bits : (vs : List PlainValue) → kept (Some (valid_bits vs)) ≡ validity vs
kept-bits vs = ap (λ b. cond b None (Some (valid_bits vs))) (all_valid_bits vs) ∙ turned (list_any is_null vs)
  where
    turned : (b : Bool) → cond (not b) None (Some (valid_bits vs)) ≡ cond b (Some (valid_bits vs)) None
    turned true = refl
    turned false = refl

valid_row : (vs : List PlainValue) (k : ℕ) → k < length vs → list_any is_null vs ≡ false → is_null (row_at vs k) ≡ false
valid_row [] k l e = absurd (omega arith)
valid_row (v ∷ vs) zero l e = (or_parts _ _ e).0
valid_row (v ∷ vs) (suc k) l e = valid_row vs k (omega arith) (or_parts _ _ e).1

no_null-from : (f : ℕ → PlainValue) (start n : ℕ) → ((i : ℕ) → i < start + n → is_null (f i) ≡ false) → list_any is_null (map f (range_with_len start n)) ≡ false
no_null-from f start zero h = refl
no_null-from f start (suc n) h = rw (h start (omega arith), no_null-from f (start + 1) n (λ i l. h i (omega arith))) refl

-- ---- runs by their ends

-- rows by their runs, of which es are the ends and vs the values
module _ (es vs : List PlainValue) (same : length es ≡ length vs) where
  abbrev pub run_rows : List PlainValue
  run_rows = below (run_value es vs) (last_end es)

  found : (i : ℕ) → i < last_end es → (run_of_row es i < length es) × (run_value es vs i ≡ row_at vs (run_of_row es i))
  found i l = run_value-number es vs i same l

  run_rows-filled : run_rows ≡ by_runs es vs null
  run_rows-filled = below-same (run_value es vs) (λ i. row_at vs (run_of_row es i)) (last_end es) (λ i l. (found i l).1) ∙ sym (by_runs-is es vs null)

  run_validity : validity_by_runs es (validity vs) ≡ validity run_rows
  run_validity =
      cond_both (list_any is_null vs) (Some (valid_bits vs)) None (λ valid. validity_by_runs es valid ≡ validity run_rows)
      (λ some. ap (λ bits. kept (Some bits)) (sym (stand-by_runs (λ v. not (is_null v)) es vs run_rows null false run_rows-filled refl)) ∙ kept-bits run_rows) none_null
    where
      none_null : list_any is_null vs ≡ false → None ≡ validity run_rows
      none_null none =
          let valid = no_null-from (run_value es vs) 0 (last_end es) (λ i l. (
          let at = found i (omega arith) in
          let p = at.0 in
          ap is_null at.1 ∙ valid_row vs (run_of_row es i) (omega arith) none
          )) in
          sym (ap (λ b. cond b (Some (valid_bits run_rows)) None) valid)

-- a tree whose rows are those of another one by runs
module _ (t values ends : Tree) (typed : tree_type t ≡ tree_type values) (flat : is_flat (tree_type values) ≡ true) (w : WellFormed ends) (whole : is_integer (tree_type ends) ≡ true)
    (not_null : is_nullable (tree_type ends) ≡ false) (same : length (rows ends) ≡ length (rows values)) (are : rows t ≡ below (run_value (rows ends) (rows values)) (last_end (rows ends))) where
  pub filled_rows : (es : Ints) (ev : Validity) (v d : Decoded) → AreIntegers ends es ev → IsDecoded values v
      → AreRows (kind_in v.values) (by_runs (map int (wholes_of es)) (values_of v.values) (default_in (kind_in v.values))) (validity_by_runs (map int (wholes_of es)) v.valid) d → IsDecoded t d
  filled_rows es ev v d h hv r =
      let read : map int (wholes_of es) ≡ rows ends = wholes-rows ends es ev w whole not_null h in
      let default = default_of_kind (tree_type values) v.values flat hv.0 in
      let d0 = default_of (tree_type values) in
      let filled = run_rows-filled (rows ends) (rows values) same in (
        r.0 ∙ hv.0 ∙ ap kind_of (sym typed),
        r.1 ∙ (λ i. by_runs (read i) (hv.1 i) (default i)) ∙ sym (stand-by_runs (or_default d0) (rows ends) (rows values) (run_rows (rows ends) (rows values) same) null d0 filled refl)
            ∙ (λ i. map (or_default (default_of (sym typed i))) (sym are i)),
        r.2 ∙ (λ i. validity_by_runs (read i) (hv.2 i)) ∙ run_validity (rows ends) (rows values) same ∙ ap validity (sym are),
      )

pub run_end_rows : (ends values : Tree) → WellFormed (run_end ends values) → (es : Ints) (ev : Validity) (v d : Decoded) → AreIntegers ends es ev → IsDecoded values v
    → AreRows (kind_in v.values) (by_runs (map int (wholes_of es)) (values_of v.values) (default_in (kind_in v.values))) (validity_by_runs (map int (wholes_of es)) v.valid) d → IsDecoded (run_end ends values) d
run_end_rows ends values w =
    let own = w.2 in
    filled_rows (run_end ends values) values ends refl (integer_flat (tree_type values) own.values_type) w.0 own.ends_type own.not_null own.lengths refl

-- ---- a fill and patches

within_or : (vs : List PlainValue) (k : ℕ) (fill : PlainValue) → k < length vs → row_at vs k ≡ get_or vs k fill
within_or [] k fill l = absurd (omega arith)
within_or (v ∷ vs) zero fill l = refl
within_or (v ∷ vs) (suc k) fill l = within_or vs k fill (omega arith)

behind_or : (vs : List PlainValue) (k : ℕ) (fill : PlainValue) → k ≡ length vs → get_or vs k fill ≡ fill
behind_or [] k fill e = refl
behind_or (v ∷ vs) zero fill e = absurd (omega arith)
behind_or (v ∷ vs) (suc k) fill e = behind_or vs k fill (omega arith)

row-patched : (is vs : List PlainValue) (fill : PlainValue) (n : ℕ) → length is ≡ length vs → patched is vs fill n ≡ get_or vs (patch_place is n) fill
row-patched is vs fill n same = pick (place_of is n) refl
  where
    pick : (o : Option ℕ) → place_of is n ≡ o → patched is vs fill n ≡ get_or vs (unwrap_or o (length is)) fill
    pick (Some j) e =
        let p = position-Some (λ v. is_index v n) is j null e in
        let l = p.0 in
        patched-place is vs fill n j same e ∙ within_or vs j fill (omega arith)
    pick None e = patched-fill is vs fill n e ∙ sym (behind_or vs (length is) fill same)

all_bits : (vs : List PlainValue) → list_any is_null vs ≡ false → replicate (length vs) true ≡ valid_bits vs
all_bits [] e = refl
all_bits (v ∷ vs) e = let b = or_parts (is_null v) (list_any is_null vs) e in λ i. not (sym b.0 i) ∷ all_bits vs b.1 i

bits-rows : (vs : List PlainValue) (n : ℕ) → n ≡ length vs → bits_in_rows (validity vs) n ≡ valid_bits vs
bits-rows vs n e =
    cond_both (list_any is_null vs) (Some (valid_bits vs)) None (λ valid. bits_in_rows valid n ≡ valid_bits vs) (λ some. refl) (λ none. ap (λ k. replicate k true) e ∙ all_bits vs none)

module _ (p : PlainPatches) (fill : PlainScalar) (w : WellFormedPatches p) (typed : tree_type p.values ≡ fill.dtype) where
  abbrev patched_rows : List PlainValue
  patched_rows = rows (sparse_of p fill)

  rows-filled : patched_rows ≡ by_patches (rows p.indices) p.offset p.array_len (rows p.values) fill.value
  rows-filled =
      rows-sparse_of p fill ∙ (λ j. below (λ i. row-patched (rows p.indices) (rows p.values) fill.value (p.offset + i) w.2.lengths j) p.array_len) ∙ sym (by_patches-is (rows p.indices) p.offset p.array_len (rows p.values) fill.value)

  patched_validity : validity_by_patches (rows p.indices) p.offset p.array_len (validity (rows p.values)) (not (is_null fill.value)) ≡ validity patched_rows
  patched_validity =
      ap (λ bits. kept (Some (by_patches (rows p.indices) p.offset p.array_len bits (not (is_null fill.value))))) (bits-rows (rows p.values) (length (rows p.indices)) w.2.lengths)
      ∙ ap (λ bits. kept (Some bits)) (sym (stand-by_patches (λ v. not (is_null v)) (rows p.indices) p.offset p.array_len (rows p.values) patched_rows fill.value (not (is_null fill.value)) rows-filled refl)) ∙ kept-bits patched_rows

  pub sparse_rows : (v d : Decoded) → IsDecoded p.values v
      → AreRows (kind_in v.values) (by_patches (rows p.indices) p.offset p.array_len (values_of v.values) (or_default (default_of fill.dtype) fill.value)) (validity_by_patches (rows p.indices) p.offset p.array_len v.valid (not (is_null fill.value))) d
      → IsDecoded (sparse_of p fill) d
  sparse_rows v d hv r =
      let own : PlainValue → PlainValue = or_default (default_of fill.dtype) in
      let values : values_of v.values ≡ map own (rows p.values) = hv.1 ∙ ap (λ t. map (or_default (default_of t)) (rows p.values)) typed in (
        r.0 ∙ hv.0 ∙ ap kind_of typed ∙ sym (ap kind_of (type-sparse_of p fill)),
        r.1 ∙ ap (λ vs. by_patches (rows p.indices) p.offset p.array_len vs (own fill.value)) values
            ∙ sym (stand-by_patches own (rows p.indices) p.offset p.array_len (rows p.values) patched_rows fill.value (own fill.value) rows-filled refl) ∙ sym (ap (λ t. map (or_default (default_of t)) patched_rows) (type-sparse_of p fill)),
        r.2 ∙ ap (λ valid. validity_by_patches (rows p.indices) p.offset p.array_len valid (not (is_null fill.value))) hv.2 ∙ patched_validity,
      )
