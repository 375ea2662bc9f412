-- Truth values that are found by the parts of each row, as a column.
use Rattle.std.proofs.Common.{◌≡◌, ◌∙◌, ℕ, ℤ, pos, true, false, cond, List, [], ◌∷◌, length, map, refl, sym, ap, Bool, Some, None}
use Rattle.std.specs.Prelude.{slice_index_or}
use Rattle.std.specs.List.{list_all, list_any}
use Rattle.std.proofs.lemmas.Bool.{and_parts, cond_both, eq-eqb}
use Rattle.std.proofs.lemmas.List.{length-map}
use Rattle.std.proofs.lemmas.List.FromFn.{length-map-range_with_len}
use Rattle.vx_base.specs.declared.dtype.Nullability.{Nullability}
use Rattle.vx_base.specs.declared.dtype.Nullability.TheVariants.{NonNullable, Nullable}
use Rattle.vx_base.specs.declared.ptype.PType.{PType}
use Rattle.vx_base.specs.Integers.{lies_in}
use Rattle.vx_base.specs.PlainScalar.{fits}
use Rattle.vx_base.specs.PlainType.{integer_of, or_nullable}
use Rattle.vx_base.specs.PlainType as types
use Rattle.vx_base.specs.PlainValue.{PlainValue, null, truth, int, is_null, whole_or_zero}
use Rattle.vx_base.specs.Timestamps.{PlainTimestamp}
use Rattle.vx_model.specs.Column.{column, column_of}
use Rattle.vx_model.specs.Plain.{validity, valid_bits}
use Rattle.vx_model.specs.Refusals.{kept, primitive_refusal, validity_allowed, validity_length}
use Rattle.vx_model.specs.Rows.{rows, below, valid_rows}
use Rattle.vx_model.specs.Tree.{Tree, Validity, bool, datetime_parts}
use Rattle.vx_model.specs.TreeType.{tree_type}
use Rattle.vx_model.specs.WellFormed.{WellFormed}
use Rattle.vx_model.proofs.MadeLemmas.{rows_fit}
use Rattle.vx_rows.proofs.TruthLemmas.{truths-made}
use Rattle.vx_time.specs.CanonicalParts.{is_canonical}
use Rattle.vx_time.specs.declared.parts.TimestampParts.{TimestampParts}
use Rattle.vx_time.specs.PartsOf.{parts, sum_of, units_per_second}
use Rattle.vx_datetime.proofs.RowAnswers.{rows-answered}

-- ---- truth values with the validity of other rows

pub bits_long : (ds : List PlainValue) (n : ℕ) → n ≡ length ds → validity_length (validity ds) n ≡ true
bits_long ds n e =
    cond_both (list_any is_null ds) (Some (valid_bits ds)) None (λ valid. validity_length valid n ≡ true) (λ some. eq-eqb (length (valid_bits ds)) n (length-map ds _ ∙ sym e)) (λ none. refl)

pub no_null : (p : PType) (ds : List PlainValue) → list_all (fits (types.primitive p NonNullable)) ds ≡ true → list_any is_null ds ≡ false
no_null p [] h = refl
no_null p (int z ∷ ds) h = no_null p ds (and_parts (lies_in p z) (list_all (fits (types.primitive p NonNullable)) ds) h).1
no_null p (v ∷ ds) h = absurd cc

nulls_allowed : (p : PType) (n m : Nullability) (ds : List PlainValue) → list_all (fits (types.primitive p n)) ds ≡ true → validity_allowed (validity ds) (or_nullable n m) ≡ true
nulls_allowed p Nullable m ds h = cond_both (list_any is_null ds) (Some (valid_bits ds)) None (λ valid. validity_allowed valid Nullable ≡ true) (λ some. refl) (λ none. refl)
nulls_allowed p NonNullable m ds h = ap (λ b. validity_allowed (cond b (Some (valid_bits ds)) None) m) (no_null p ds h)

pub bits-admitted : (p : PType) (n m : Nullability) (ds : List PlainValue) (len : ℕ) → len ≡ length ds → list_all (fits (types.primitive p n)) ds ≡ true → primitive_refusal len (validity ds) (or_nullable n m) ≡ None
bits-admitted p n m ds len e h = rw (bits_long ds len e, nulls_allowed p n m ds h) refl

-- ---- the rows of an array

module _ (k : PlainTimestamp) (n m : Nullability) (days seconds subseconds : Tree) (w : WellFormed (datetime_parts k n days seconds subseconds))
    (found : TimestampParts → Bool) (g : PlainValue → PlainValue) (of_null : g null ≡ null) (of_parts : (p : TimestampParts) → is_canonical (units_per_second k.unit) p ≡ true → truth (found p) ≡ g (int (sum_of (units_per_second k.unit) p)))
    (d s u : Tree) (ed : column_of d ≡ column_of days) (es : column_of s ≡ column_of seconds) (eu : column_of u ≡ column_of subseconds)
    (xs ys zs : List ℤ) (valid : Validity) (is_days : xs ≡ map whole_or_zero (rows d)) (is_valid : valid ≡ validity (rows d)) (is_seconds : ys ≡ map whole_or_zero (rows s)) (is_subseconds : zs ≡ map whole_or_zero (rows u))
    (bits : List Bool) (is_bits : bits ≡ below (λ i. found (parts (slice_index_or xs i (pos 0)) (slice_index_or ys i (pos 0)) (slice_index_or zs i (pos 0)))) (length xs)) where
  abbrev whole_rows : Tree → List ℤ
  whole_rows tree = map whole_or_zero (rows tree)

  of_days : xs ≡ whole_rows days
  of_days = is_days ∙ ap (λ c. map whole_or_zero c.values) ed

  of_valid : valid ≡ validity (rows days)
  of_valid = is_valid ∙ ap (λ c. validity c.values) ed

  of_seconds : ys ≡ whole_rows seconds
  of_seconds = is_seconds ∙ ap (λ c. map whole_or_zero c.values) es

  of_subseconds : zs ≡ whole_rows subseconds
  of_subseconds = is_subseconds ∙ ap (λ c. map whole_or_zero c.values) eu

  days_long : length xs ≡ length (rows days)
  days_long = ap length of_days ∙ length-map (rows days) whole_or_zero

  long : length bits ≡ length (rows days)
  long = ap length is_bits ∙ length-map-range_with_len _ 0 (length xs) ∙ days_long

  fitting : list_all (fits (types.primitive (integer_of (tree_type days)) n)) (rows days) ≡ true
  fitting = ap (λ t. list_all (fits t) (rows days)) (sym w.3.days_type) ∙ rows_fit days w.0

  pub answers-admitted : primitive_refusal (length bits) valid (or_nullable n m) ≡ None
  answers-admitted = ap (λ v. primitive_refusal (length bits) v (or_nullable n m)) of_valid ∙ bits-admitted (integer_of (tree_type days)) n m (rows days) (length bits) long fitting

  of_bits : bits ≡ below (λ i. found (parts (slice_index_or (whole_rows days) i (pos 0)) (slice_index_or (whole_rows seconds) i (pos 0)) (slice_index_or (whole_rows subseconds) i (pos 0)))) (length (rows days))
  of_bits = is_bits ∙ (λ j. below (λ i. found (parts (slice_index_or (of_days j) i (pos 0)) (slice_index_or (of_seconds j) i (pos 0)) (slice_index_or (of_subseconds j) i (pos 0)))) (days_long j))

  pub answers-column : column_of (bool bits (kept valid) (or_nullable n m)) ≡ column (types.boolean (or_nullable n m)) (map g (rows (datetime_parts k n days seconds subseconds)))
  answers-column =
      let own = w.3 in
      let some : validity_length valid (length bits) ≡ true = ap (λ v. validity_length v (length bits)) of_valid ∙ bits_long (rows days) (length bits) long in
      truths-made bits valid (or_nullable n m) some
      ∙ ap (column (types.boolean (or_nullable n m))) (
      (λ j. valid_rows (of_valid j) (map truth (of_bits j)))
      ∙ rows-answered (units_per_second k.unit) found g of_null of_parts (rows days) (rows seconds) (rows subseconds) own.seconds_length own.subseconds_length own.canonical)
