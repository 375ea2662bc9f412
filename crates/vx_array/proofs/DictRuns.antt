-- Dictionaries over runs of codes, and over equal codes: what they are decoded to.
use Rattle.std.proofs.Common.{◌≡◌, ◌∙◌, inl, inr, ◌<◌, ◌≤◌, ◌-◌, ◌^◌, ℕ, zero, suc, pos, List, [], ◌∷◌, length, map, Bool, true, false, cond, refl, sym, ap, arith, None}
use Rattle.std.specs.Prelude.{int_lt, replicate}
use Rattle.std.specs.List.{list_all, range_with_len}
use Rattle.std.proofs.lemmas.Bool.{cases_lt}
use Rattle.std.proofs.lemmas.Simd.{map-map}
use Rattle.vx_base.specs.Defaults.{default_of, or_default}
use Rattle.vx_base.specs.PlainValue.{PlainValue, null, int, whole_or_zero}
use Rattle.vx_model.specs.Plain.{validity}
use Rattle.vx_model.specs.Refusals.{dict_refusal}
use Rattle.vx_model.specs.Rows.{rows, row_at, below, looked_up, offset_at, run_value}
use Rattle.vx_model.specs.Tree.{Tree, Validity, dict, run_end}
use Rattle.vx_model.specs.TreeType.{tree_type}
use Rattle.vx_model.specs.WellFormed.{WellFormed, ascend, is_place}
use Rattle.vx_model.proofs.DictLemmas.{dict_accepted, length-dict}
use Rattle.vx_model.proofs.FrameOfReferenceLemmas.{row_passes}
use Rattle.vx_model.proofs.RunEndLemmas.{end-between, ends-rise, last_end, length-run_end, row_at-run}
use Rattle.vx_values.specs.declared.decoded.Decoded.{Decoded}
use Rattle.vx_values.specs.declared.ints.Ints.{Ints}
use Rattle.vx_values.specs.IntsOf.{wholes_of}
use Rattle.vx_values.specs.Placed.{by_runs, validity_by_runs}
use Rattle.vx_values.specs.ValuesOf.{kind_of, kind_in, values_of, default_in, AreRows}
use Rattle.vx_array.specs.IsDecoded.{IsDecoded}
use Rattle.vx_array.specs.Lent.{AreIntegers}
use Rattle.vx_array.specs.Linear.{IsUniform}
use Rattle.vx_array.proofs.Flat.{dict_flat}
use Rattle.vx_array.proofs.LinearRows.{all-pass, rows-uniform}
use Rattle.vx_array.proofs.PlacedRows.{filled_rows}

-- a value of a run's value is that of the row
run_value-map : (f : PlainValue → PlainValue) → f null ≡ null → (es vs : List PlainValue) (i : ℕ) → run_value es (map f vs) i ≡ f (run_value es vs i)
run_value-map f none [] vs i = sym none
run_value-map f none (e ∷ es) [] i = sym none
run_value-map f none (e ∷ es) (v ∷ vs) i = ap (λ w. cond (int_lt (pos i) (whole_or_zero e)) (f v) w) (run_value-map f none es vs i) ∙ pick (int_lt (pos i) (whole_or_zero e))
  where
    pick : (b : Bool) → cond b (f v) (f (run_value es vs i)) ≡ f (cond b v (run_value es vs i))
    pick true = refl
    pick false = refl

-- a row of each run: the first, which is the end before it
record IsInRun (es : List PlainValue) (place : ℕ) : Type 0 where
  row : ℕ
  from : 0 < place → offset_at es (place - 1) ≤ row
  to : row < offset_at es place
  within : row < last_end es

in_run : (es : List PlainValue) (place : ℕ) → ascend 1 (2 ^ 64) es ≡ true → place < length es → IsInRun es place
in_run es place up l = pick place refl
  where
    most : offset_at es place ≤ last_end es
    most =
        elim (cases_lt place (length es - 1)) [
          | inl less ↦ let rising = ends-rise 1 (2 ^ 64) es place (length es - 1) up less (omega arith) in omega arith
          | inr more ↦ let same : place ≡ length es - 1 = omega arith in let there = ap (offset_at es) same in omega arith
        ]

    pick : (k : ℕ) → place ≡ k → IsInRun es place
    pick zero e =
        let least = (end-between 1 (2 ^ 64) es place up l).0 in
        record { row = 0; from = λ m. absurd (omega arith); to = omega arith; within = omega (arith, least, most) }
    pick (suc k) e =
        let rising = ends-rise 1 (2 ^ 64) es (place - 1) place up (omega arith) l in
        record { row = offset_at es (place - 1); from = λ m. omega arith; to = rising; within = omega (arith, rising, most) }

module _ (ends codes values : Tree) (w : WellFormed (dict (run_end ends codes) values)) where
  -- the code of each run has a place
  run_places : list_all (is_place (length (rows values))) (rows codes) ≡ true
  run_places =
      all-pass (is_place (length (rows values))) (rows codes) (λ k l. (
      let many = w.0.2.lengths in
      let within : k < length (rows ends) = omega arith in
      let own = in_run (rows ends) k w.0.2.rising within in
      let first = own.within in
      ap (is_place (length (rows values))) (sym (row_at-run ends codes w.0 own.row k within own.from own.to))
      ∙ row_passes (is_place (length (rows values))) (rows (run_end ends codes)) own.row (omega (arith, length-run_end ends codes, first)) w.2.places
      ))

  pub run_codes : WellFormed (dict codes values)
  run_codes =
      let accepted : dict_refusal codes values ≡ None = rw (w.0.2.values_type, w.2.values_type, run_places) refl in
      dict_accepted codes values accepted w.0.1 w.1

  rows-dict_runs : rows (dict (run_end ends codes) values) ≡ below (run_value (rows ends) (rows (dict codes values))) (last_end (rows ends))
  rows-dict_runs =
      map-map (looked_up (rows values)) (run_value (rows ends) (rows codes)) (range_with_len 0 (last_end (rows ends)))
      ∙ (λ j. map (λ i. sym (run_value-map (looked_up (rows values)) refl (rows ends) (rows codes) i) j) (range_with_len 0 (last_end (rows ends))))

  pub dict_runs_rows : (es : Ints) (ev : Validity) (v d : Decoded) → AreIntegers ends es ev → IsDecoded (dict codes values) v
      → AreRows (kind_in v.values) (by_runs (map int (wholes_of es)) (values_of v.values) (default_in (kind_in v.values))) (validity_by_runs (map int (wholes_of es)) v.valid) d → IsDecoded (dict (run_end ends codes) values) d
  dict_runs_rows =
      let own = w.0.2 in
      filled_rows (dict (run_end ends codes) values) (dict codes values) ends refl (dict_flat (tree_type codes) (tree_type values) w.2.values_type) w.0.0 own.ends_type own.not_null
      (own.lengths ∙ sym (length-dict codes values)) rows-dict_runs

-- equal rows, from one of them
pub uniform_rows : (t : Tree) (v : PlainValue) (n : ℕ) (d : Decoded) → IsUniform (rows t) → v ≡ row_at (rows t) 0 → n ≡ length (rows t)
    → AreRows (kind_of (tree_type t)) (map (or_default (default_of (tree_type t))) (replicate n v)) (validity (replicate n v)) d → IsDecoded t d
uniform_rows t v n d same row long r =
    let all : replicate n v ≡ rows t = (λ i. replicate (long i) (row i)) ∙ sym (rows-uniform (rows t) same) in
    (r.0, r.1 ∙ ap (map (or_default (default_of (tree_type t)))) all, r.2 ∙ ap validity all)
