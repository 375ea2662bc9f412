-- The rows of parts, by the whole numbers and the validity of their columns.
use Rattle.std.proofs.Common.{◌≡◌, ◌∙◌, ◌<◌, ℕ, zero, suc, ◌+◌, ℤ, pos, Bool, true, false, List, length, map, get_or, refl, sym, ap, arith}
use Rattle.std.specs.Prelude.{◌||◌, not}
use Rattle.std.specs.List.{list_all, range_with_len}
use Rattle.std.proofs.lemmas.Bool.{and_from}
use Rattle.std.proofs.lemmas.List.{get_or-map, length-map}
use Rattle.std.proofs.lemmas.List.Folds.{list_all_at}
use Rattle.std.proofs.lemmas.List.FromFn.{get_or-range_with_len, length-range_with_len}
use Rattle.vx_base.specs.PlainValue.{PlainValue, null, is_null, whole_or_zero}
use Rattle.vx_model.specs.Plain.{validity}
use Rattle.vx_model.specs.Rows.{is_valid_at, row_at}
use Rattle.vx_model.specs.Tree.{Validity}
use Rattle.vx_model.specs.WellFormed.{is_canonical_at, are_canonical}
use Rattle.vx_model.proofs.DictDecodeLemmas.{valid_at}
use Rattle.vx_time.specs.CanonicalParts.{is_canonical}
use Rattle.vx_time.specs.PartsOf.{parts}
use Rattle.vx_flat.specs.CanonicalRows.{is_canonical_row}

-- ---- a test of each number below n

pub range_passes : (p : ℕ → Bool) (start n : ℕ) → ((i : ℕ) → i < start + n → p i ≡ true) → list_all p (range_with_len start n) ≡ true
range_passes p start zero h = refl
range_passes p start (suc n) h = and_from _ _ (h start (omega arith)) (range_passes p (start + 1) n (λ i l. h i (omega arith)))

pub range_fails : (p : ℕ → Bool) (n i : ℕ) → i < n → p i ≡ false → list_all p (range_with_len 0 n) ≡ false
range_fails p n i l fails =
    let same : get_or (range_with_len 0 n) i 0 ≡ i = get_or-range_with_len 0 n i 0 l ∙ omega arith in
    list_all_at p (range_with_len 0 n) i 0 (omega (arith, length-range_with_len 0 n)) (ap p same ∙ fails)

-- ---- rows

not_not : (b : Bool) → not (not b) ≡ b
not_not true = refl
not_not false = refl

module _ (d : ℤ) (days : List ℤ) (valid : Validity) (seconds subseconds : List ℤ) (ds ss us : List PlainValue)
    (of_days : days ≡ map whole_or_zero ds) (of_valid : valid ≡ validity ds) (of_seconds : seconds ≡ map whole_or_zero ss) (of_subseconds : subseconds ≡ map whole_or_zero us)
    (same : length seconds ≡ length days) (so_many : length subseconds ≡ length days) where
  whole_row : (rs : List PlainValue) (xs : List ℤ) (i : ℕ) → xs ≡ map whole_or_zero rs → i < length xs → get_or xs i (pos 0) ≡ whole_or_zero (row_at rs i)
  whole_row rs xs i is l = ap (λ ys. get_or ys i (pos 0)) is ∙ get_or-map whole_or_zero rs i null (pos 0) (omega (arith, ap length is, length-map rs whole_or_zero))

  long : length days ≡ length ds
  long = ap length of_days ∙ length-map ds whole_or_zero

  row-canonical : (i : ℕ) → i < length days → is_canonical_row d days valid seconds subseconds i ≡ is_canonical_at d ds ss us i
  row-canonical i l =
      let a = whole_row ds days i of_days l in
      let b = whole_row ss seconds i of_seconds (omega arith) in
      let e = whole_row us subseconds i of_subseconds (omega arith) in
      let null_here : not (is_valid_at valid i) ≡ is_null (row_at ds i) = ap (λ v. not (is_valid_at v i)) of_valid ∙ ap not (valid_at ds i (omega (arith, long))) ∙ not_not (is_null (row_at ds i)) in
      λ j. null_here j || is_canonical d (parts (a j) (b j) (e j))

  pub rows_canonical : ((i : ℕ) → i < length days → is_canonical_row d days valid seconds subseconds i ≡ true) → are_canonical d ds ss us ≡ true
  rows_canonical each = range_passes (is_canonical_at d ds ss us) 0 (length ds) (λ i l. let lt : i < length days = omega (arith, long) in sym (row-canonical i lt) ∙ each i lt)

  pub row_fails : (i : ℕ) → i < length days → is_canonical_row d days valid seconds subseconds i ≡ false → are_canonical d ds ss us ≡ false
  row_fails i l fails = range_fails (is_canonical_at d ds ss us) (length ds) i (omega (arith, long)) (sym (row-canonical i l) ∙ fails)
