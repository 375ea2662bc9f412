-- Parts of which rows were taken by indices: the node's constructor accepts them, and its rows are the rows taken.
use Rattle.std.proofs.Common.{◌≡◌, ◌∙◌, ℕ, zero, suc, ℤ, pos, negsuc, true, List, [], ◌∷◌, length, map, refl, sym, ap, arith}
use Rattle.std.specs.Prelude.{◌||◌, None}
use Rattle.std.specs.List.{list_all}
use Rattle.std.proofs.lemmas.Bool.{and_from, and_parts, eq-eqb}
use Rattle.std.proofs.lemmas.List.{length-map}
use Rattle.vx_base.specs.Answers.{unless}
use Rattle.vx_base.specs.Defaults.{or_default}
use Rattle.vx_base.specs.declared.error.VortexError.TheVariants.{MismatchedTypes, OutOfBounds}
use Rattle.vx_base.specs.declared.dtype.Nullability.{Nullability}
use Rattle.vx_base.specs.declared.dtype.Nullability.TheVariants.{NonNullable}
use Rattle.vx_base.specs.declared.ptype.PType.{PType}
use Rattle.vx_base.specs.PlainType.{integer_of, is_integer, nullability_of, or_nullable, stored_type, with_nullability}
use Rattle.vx_base.specs.PlainType as types
use Rattle.vx_base.specs.PlainValue.{PlainValue, null, int, is_null, whole_or_zero}
use Rattle.vx_base.specs.Storable.{same_refl}
use Rattle.vx_base.specs.Timestamps.{PlainTimestamp}
use Rattle.vx_model.specs.Column.{Column, column, column_of}
use Rattle.vx_model.specs.Refusals.{datetime_parts_refusal}
use Rattle.vx_model.specs.Rows.{rows, each_int, looked_up, row_at}
use Rattle.vx_model.specs.Tree.{Tree, datetime_parts}
use Rattle.vx_model.specs.TreeType.{tree_type}
use Rattle.vx_model.specs.WellFormed.{WellFormed, are_canonical, is_place, is_whole_type}
use Rattle.vx_rules.specs.Selections.{take_refusal, taken}
use Rattle.vx_selections.proofs.Leaves.{Stands}
use Rattle.vx_time.specs.CanonicalParts.{is_canonical}
use Rattle.vx_time.specs.PartsOf.{parts, sum_of, units_per_second}
use Rattle.vx_datetime.proofs.ChosenParts.{accepted-by, all_pass, canonical, combined, same-test}
use Rattle.vx_datetime.proofs.EachPart.{each3, numbered}

-- the taken rows, and those of a part that has 0 in place of null
abbrev pub taken_rows : List PlainValue → List PlainValue → List PlainValue
taken_rows vs is = map (looked_up vs) is

abbrev pub taken_or_zero : List PlainValue → List PlainValue → List PlainValue
taken_or_zero vs is = map (or_default (int (pos 0))) (map (looked_up vs) is)

-- 0 in place of null is the same whole number
whole-or : (v : PlainValue) → whole_or_zero (or_default (int (pos 0)) v) ≡ whole_or_zero v
whole-or null = refl
whole-or v = refl

combined-or : (d : ℤ) (v s u : PlainValue) → combined d v s u ≡ combined d v (or_default (int (pos 0)) s) (or_default (int (pos 0)) u)
combined-or d v s u = λ i. each_int (λ z. sum_of d (parts z (sym (whole-or s) i) (sym (whole-or u) i))) v

canonical-or : (d : ℤ) (v s u : PlainValue) → canonical d v s u ≡ canonical d v (or_default (int (pos 0)) s) (or_default (int (pos 0)) u)
canonical-or d v s u = λ i. is_null v || is_canonical d (parts (whole_or_zero v) (sym (whole-or s) i) (sym (whole-or u) i))

module _ (d : ℤ) where
  -- the row with a number, null out of bounds
  row-combined : (ds ss us : List PlainValue) (k : ℕ) → length ss ≡ length ds → length us ≡ length ds → row_at (each3 (combined d) ds ss us) k ≡ combined d (row_at ds k) (row_at ss k) (row_at us k)
  row-combined [] ss us k l m = refl
  row-combined (v ∷ ds) [] us k l m = absurd (omega (arith, l))
  row-combined (v ∷ ds) (s ∷ ss) [] k l m = absurd (omega (arith, m))
  row-combined (v ∷ ds) (s ∷ ss) (u ∷ us) zero l m = refl
  row-combined (v ∷ ds) (s ∷ ss) (u ∷ us) (suc k) l m = row-combined ds ss us k (omega (arith, l)) (omega (arith, m))

  row-canonical : (ds ss us : List PlainValue) (k : ℕ) → length ss ≡ length ds → length us ≡ length ds → all_pass d ds ss us ≡ true → canonical d (row_at ds k) (row_at ss k) (row_at us k) ≡ true
  row-canonical [] ss us k l m h = refl
  row-canonical (v ∷ ds) [] us k l m h = absurd (omega (arith, l))
  row-canonical (v ∷ ds) (s ∷ ss) [] k l m h = absurd (omega (arith, m))
  row-canonical (v ∷ ds) (s ∷ ss) (u ∷ us) zero l m h = (and_parts (canonical d v s u) (all_pass d ds ss us) h).0
  row-canonical (v ∷ ds) (s ∷ ss) (u ∷ us) (suc k) l m h = row-canonical ds ss us k (omega (arith, l)) (omega (arith, m)) (and_parts (canonical d v s u) (all_pass d ds ss us) h).1

  module _ (ds ss us : List PlainValue) (l : length ss ≡ length ds) (m : length us ≡ length ds) where
    one-combined : (i : PlainValue) → looked_up (each3 (combined d) ds ss us) i ≡ combined d (looked_up ds i) (or_default (int (pos 0)) (looked_up ss i)) (or_default (int (pos 0)) (looked_up us i))
    one-combined (int (pos k)) = row-combined ds ss us k l m ∙ combined-or d (row_at ds k) (row_at ss k) (row_at us k)
    one-combined (int (negsuc k)) = refl
    one-combined i = refl

    pub taken-combined : (is : List PlainValue) → taken_rows (each3 (combined d) ds ss us) is ≡ each3 (combined d) (taken_rows ds is) (taken_or_zero ss is) (taken_or_zero us is)
    taken-combined [] = refl
    taken-combined (i ∷ is) = λ j. one-combined i j ∷ taken-combined is j

    one-canonical : all_pass d ds ss us ≡ true → (i : PlainValue) → canonical d (looked_up ds i) (or_default (int (pos 0)) (looked_up ss i)) (or_default (int (pos 0)) (looked_up us i)) ≡ true
    one-canonical h (int (pos k)) = sym (canonical-or d (row_at ds k) (row_at ss k) (row_at us k)) ∙ row-canonical ds ss us k l m h
    one-canonical h (int (negsuc k)) = refl
    one-canonical h i = refl

    pub taken-canonical : all_pass d ds ss us ≡ true → (is : List PlainValue) → all_pass d (taken_rows ds is) (taken_or_zero ss is) (taken_or_zero us is) ≡ true
    taken-canonical h [] = refl
    taken-canonical h (i ∷ is) = and_from _ _ (one-canonical h i) (taken-canonical h is)

length-or_zero : (vs is ws : List PlainValue) → length (taken_or_zero vs is) ≡ length (taken_rows ws is)
length-or_zero vs is ws = length-map (map (looked_up vs) is) (or_default (int (pos 0))) ∙ length-map is (looked_up vs) ∙ sym (length-map is (looked_up ws))

-- ---- refusals, by the number of rows

pub same-places : (a b indices : Column) → length a.values ≡ length b.values → take_refusal a indices ≡ take_refusal b indices
same-places a b indices e = ap (λ len. unless (is_integer indices.dtype) MismatchedTypes (unless (list_all (is_place len) indices.values) OutOfBounds None)) e

-- by a tree of the indices' column
pub by-places : (part indices places out : Tree) (p : PType) → column_of places ≡ column_of indices → column_of out ≡ column (types.primitive p NonNullable) (taken_or_zero (rows part) (rows places)) → column_of out ≡ column (types.primitive p NonNullable) (taken_or_zero (rows part) (rows indices))
by-places part indices places out p same is = is ∙ ap (λ k. column (types.primitive p NonNullable) (taken_or_zero (rows part) k.values)) same

-- ---- the node

module _ (k : PlainTimestamp) (n : Nullability) (days seconds subseconds : Tree) (w : WellFormed (datetime_parts k n days seconds subseconds)) (indices : Tree) (p q : PType) where
  pub parts_taken : (d s u : Tree) → column_of d ≡ taken (column_of days) (column_of indices)
      → column_of s ≡ column (types.primitive p NonNullable) (taken_or_zero (rows seconds) (rows indices)) → column_of u ≡ column (types.primitive q NonNullable) (taken_or_zero (rows subseconds) (rows indices))
      → Stands (taken (column_of (datetime_parts k n days seconds subseconds)) (column_of indices)) (datetime_parts_refusal k (or_nullable n (nullability_of (tree_type indices))) d s u) (datetime_parts k (or_nullable n (nullability_of (tree_type indices))) d s u)
  parts_taken d s u ed es eu =
      let own = w.3 in
      let e = units_per_second k.unit in
      let m = or_nullable n (nullability_of (tree_type indices)) in
      let is = rows indices in
      let ds = taken_rows (rows days) is in
      let ss = taken_or_zero (rows seconds) is in
      let us = taken_or_zero (rows subseconds) is in
      let rows_d : rows d ≡ ds = ap (λ c. c.values) ed in
      let rows_s : rows s ≡ ss = ap (λ c. c.values) es in
      let rows_u : rows u ≡ us = ap (λ c. c.values) eu in
      let typed : tree_type d ≡ types.primitive (integer_of (tree_type days)) m =
      ap (λ c. c.dtype) ed ∙ ap (λ t. with_nullability t (or_nullable (nullability_of t) (nullability_of (tree_type indices)))) own.days_type in
      let type_s : tree_type s ≡ types.primitive p NonNullable = ap (λ c. c.dtype) es in
      let type_u : tree_type u ≡ types.primitive q NonNullable = ap (λ c. c.dtype) eu in
      let long : length (rows s) ≡ length (rows d) = ap length rows_s ∙ length-or_zero (rows seconds) is (rows days) ∙ sym (ap length rows_d) in
      let longer : length (rows u) ≡ length (rows d) = ap length rows_u ∙ length-or_zero (rows subseconds) is (rows days) ∙ sym (ap length rows_d) in
      let before : all_pass e (rows days) (rows seconds) (rows subseconds) ≡ true = sym (same-test e (rows days) (rows seconds) (rows subseconds) own.seconds_length own.subseconds_length) ∙ own.canonical in
      let tests : are_canonical e (rows d) (rows s) (rows u) ≡ true =
      same-test e (rows d) (rows s) (rows u) long longer ∙ (λ i. all_pass e (rows_d i) (rows_s i) (rows_u i))
      ∙ taken-canonical e (rows days) (rows seconds) (rows subseconds) own.seconds_length own.subseconds_length before is in
      record {
        accepted = accepted-by _ _ _
            (and_from _ _ (same_refl stored_type _ _ (typed ∙ ap (λ t. types.primitive (integer_of t) m) (sym typed))) (and_from _ _ (ap is_whole_type type_s) (ap is_whole_type type_u)))
            (and_from _ _ (eq-eqb _ _ long) (eq-eqb _ _ longer)) tests;
        column = ap (column (types.timestamp k m)) (
            numbered (combined e) (rows d) (rows s) (rows u) long longer ∙ (λ i. each3 (combined e) (rows_d i) (rows_s i) (rows_u i))
            ∙ sym (taken-combined e (rows days) (rows seconds) (rows subseconds) own.seconds_length own.subseconds_length is)
            ∙ sym (ap (λ vs. taken_rows vs is) (numbered (combined e) (rows days) (rows seconds) (rows subseconds) own.seconds_length own.subseconds_length)));
      }
