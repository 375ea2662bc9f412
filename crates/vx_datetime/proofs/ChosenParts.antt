-- Parts whose rows were chosen alike: the node's constructor accepts them, and its rows are the rows chosen alike.
use Rattle.std.proofs.Common.{◌≡◌, ◌∙◌, ℕ, ℤ, Bool, true, false, List, length, refl, sym, ap, subst, None}
use Rattle.std.specs.Prelude.{◌||◌}
use Rattle.std.specs.List.{list_all, range_with_len}
use Rattle.std.proofs.lemmas.Bool.{and_from, eq-eqb}
use Rattle.vx_base.specs.declared.dtype.Nullability.{Nullability}
use Rattle.vx_base.specs.declared.error.VortexError.TheVariants.{LengthMismatch, MismatchedTypes, PartsNotCanonical}
use Rattle.vx_base.specs.Answers.{unless}
use Rattle.vx_base.specs.PlainType.{integer_of, stored_type}
use Rattle.vx_base.specs.PlainType as types
use Rattle.vx_base.specs.PlainValue.{PlainValue, is_null, whole_or_zero}
use Rattle.vx_base.specs.Storable.{same_refl}
use Rattle.vx_base.specs.Timestamps.{PlainTimestamp}
use Rattle.vx_model.specs.Column.{column, column_of}
use Rattle.vx_model.specs.Refusals.{datetime_parts_refusal}
use Rattle.vx_model.specs.Rows.{rows, each_int}
use Rattle.vx_model.specs.Tree.{Tree, datetime_parts}
use Rattle.vx_model.specs.TreeType.{tree_type}
use Rattle.vx_model.specs.WellFormed.{WellFormed, are_canonical, is_whole_type}
use Rattle.vx_model.proofs.DateTimePartsLemmas.{length-datetime_parts}
use Rattle.vx_rules.specs.Selections.{filtered, sliced, kept_items}
use Rattle.vx_base.specs.Masks.{rows_between}
use Rattle.vx_time.specs.CanonicalParts.{is_canonical}
use Rattle.vx_time.specs.PartsOf.{parts, sum_of, units_per_second}
use Rattle.vx_selections.proofs.KeptItems.{all-kept, kept-lengths}
use Rattle.vx_selections.proofs.Leaves.{Stands}
use Rattle.vx_datetime.proofs.EachPart.{all-between, all-mapped, between-each3, between-lengths, each3, kept-each3, numbered}

-- the timestamp of a row's parts, null where the day is
abbrev pub combined : ℤ → PlainValue → PlainValue → PlainValue → PlainValue
combined d day second subsecond = each_int (λ z. sum_of d (parts z (whole_or_zero second) (whole_or_zero subsecond))) day

-- whether a row's parts are canonical, or the day null
abbrev pub canonical : ℤ → PlainValue → PlainValue → PlainValue → Bool
canonical d day second subsecond = is_null day || is_canonical d (parts (whole_or_zero day) (whole_or_zero second) (whole_or_zero subsecond))

abbrev pub all_pass : ℤ → List PlainValue → List PlainValue → List PlainValue → Bool
all_pass d ds ss us = list_all (λ b. b) (each3 (canonical d) ds ss us)

pub same-test : (d : ℤ) (ds ss us : List PlainValue) → length ss ≡ length ds → length us ≡ length ds → are_canonical d ds ss us ≡ all_pass d ds ss us
same-test d ds ss us l m = sym (all-mapped _ (range_with_len 0 (length ds))) ∙ ap (list_all (λ b. b)) (numbered (canonical d) ds ss us l m)

-- what three tests pass is not refused
pub accepted-by : (a b c : Bool) → a ≡ true → b ≡ true → c ≡ true → unless a MismatchedTypes (unless b LengthMismatch (unless c PartsNotCanonical None)) ≡ None
accepted-by true true true x y z = refl
accepted-by false b c x y z = absurd cc
accepted-by true false c x y z = absurd cc
accepted-by true true false x y z = absurd cc

-- an array has as many rows as its days
pub days_long : (k : PlainTimestamp) (n : Nullability) (days seconds subseconds t : Tree) → t ≡ datetime_parts k n days seconds subseconds → length (rows t) ≡ length (rows days)
days_long k n days seconds subseconds t e = ap (λ x. length (rows x)) e ∙ length-datetime_parts k n days seconds subseconds

-- one choice of rows, from columns as long as the days
module _ (k : PlainTimestamp) (n : Nullability) (days seconds subseconds : Tree) (w : WellFormed (datetime_parts k n days seconds subseconds))
    (choose : List PlainValue → List PlainValue)
    (lengths : (xs ys : List PlainValue) → length xs ≡ length ys → length (choose xs) ≡ length (choose ys))
    (each : (f : PlainValue → PlainValue → PlainValue → PlainValue) (ds ss us : List PlainValue) → length ss ≡ length ds → length us ≡ length ds → choose (each3 f ds ss us) ≡ each3 f (choose ds) (choose ss) (choose us))
    (pass : (d : ℤ) (ds ss us : List PlainValue) → length ss ≡ length ds → length us ≡ length ds → all_pass d ds ss us ≡ true → all_pass d (choose ds) (choose ss) (choose us) ≡ true) where
  pub chosen_parts : (d s u : Tree) → column_of d ≡ column (tree_type days) (choose (rows days)) → column_of s ≡ column (tree_type seconds) (choose (rows seconds)) → column_of u ≡ column (tree_type subseconds) (choose (rows subseconds))
      → Stands (column (types.timestamp k n) (choose (rows (datetime_parts k n days seconds subseconds)))) (datetime_parts_refusal k n d s u) (datetime_parts k n d s u)
  chosen_parts d s u ed es eu =
      let own = w.3 in
      let e = units_per_second k.unit in
      let long : length (choose (rows seconds)) ≡ length (choose (rows days)) = lengths _ _ own.seconds_length in
      let longer : length (choose (rows subseconds)) ≡ length (choose (rows days)) = lengths _ _ own.subseconds_length in
      let rows_d : rows d ≡ choose (rows days) = ap (λ c. c.values) ed in
      let rows_s : rows s ≡ choose (rows seconds) = ap (λ c. c.values) es in
      let rows_u : rows u ≡ choose (rows subseconds) = ap (λ c. c.values) eu in
      let type_d : tree_type d ≡ tree_type days = ap (λ c. c.dtype) ed in
      let type_s : tree_type s ≡ tree_type seconds = ap (λ c. c.dtype) es in
      let type_u : tree_type u ≡ tree_type subseconds = ap (λ c. c.dtype) eu in
      let tests : are_canonical e (choose (rows days)) (choose (rows seconds)) (choose (rows subseconds)) ≡ true =
      same-test e _ _ _ long longer ∙ pass e (rows days) (rows seconds) (rows subseconds) own.seconds_length own.subseconds_length
      (sym (same-test e (rows days) (rows seconds) (rows subseconds) own.seconds_length own.subseconds_length) ∙ own.canonical) in
      record {
        accepted = accepted-by _ _ _
            (and_from _ _ (same_refl stored_type _ _ (type_d ∙ own.days_type ∙ ap (λ t. types.primitive (integer_of t) n) (sym type_d)))
            (and_from _ _ (ap is_whole_type type_s ∙ own.seconds_type) (ap is_whole_type type_u ∙ own.subseconds_type)))
            (and_from _ _ (eq-eqb _ _ (ap length rows_s ∙ long ∙ sym (ap length rows_d))) (eq-eqb _ _ (ap length rows_u ∙ longer ∙ sym (ap length rows_d))))
            (ap (λ xs. are_canonical e xs (rows s) (rows u)) rows_d ∙ ap (λ xs. are_canonical e (choose (rows days)) xs (rows u)) rows_s ∙ ap (are_canonical e (choose (rows days)) (choose (rows seconds))) rows_u ∙ tests);
        column = ap (column (types.timestamp k n)) (
            numbered (combined e) (rows d) (rows s) (rows u) (ap length rows_s ∙ long ∙ sym (ap length rows_d)) (ap length rows_u ∙ longer ∙ sym (ap length rows_d))
            ∙ ap (λ xs. each3 (combined e) xs (rows s) (rows u)) rows_d ∙ ap (λ xs. each3 (combined e) (choose (rows days)) xs (rows u)) rows_s ∙ ap (each3 (combined e) (choose (rows days)) (choose (rows seconds))) rows_u
            ∙ sym (each (combined e) (rows days) (rows seconds) (rows subseconds) own.seconds_length own.subseconds_length)
            ∙ sym (ap choose (numbered (combined e) (rows days) (rows seconds) (rows subseconds) own.seconds_length own.subseconds_length)));
      }

module _ (k : PlainTimestamp) (n : Nullability) (days seconds subseconds : Tree) (w : WellFormed (datetime_parts k n days seconds subseconds)) (d s u : Tree) where
  -- of a range
  pub parts_sliced : (start end : ℕ) → column_of d ≡ sliced (column_of days) start end → column_of s ≡ sliced (column_of seconds) start end → column_of u ≡ sliced (column_of subseconds) start end
      → Stands (sliced (column_of (datetime_parts k n days seconds subseconds)) start end) (datetime_parts_refusal k n d s u) (datetime_parts k n d s u)
  parts_sliced start end ed es eu =
      chosen_parts k n days seconds subseconds w (λ xs. rows_between xs start end) (between-lengths start end) (λ f. between-each3 f start end)
      (λ e ds ss us l m h. subst (λ bs. list_all (λ b. b) bs ≡ true) (between-each3 (canonical e) start end ds ss us l m) (all-between (λ b. b) start end _ h)) d s u ed es eu

  -- by a mask
  pub parts_filtered : (keep : List Bool) → column_of d ≡ filtered (column_of days) keep → column_of s ≡ filtered (column_of seconds) keep → column_of u ≡ filtered (column_of subseconds) keep
      → Stands (filtered (column_of (datetime_parts k n days seconds subseconds)) keep) (datetime_parts_refusal k n d s u) (datetime_parts k n d s u)
  parts_filtered keep ed es eu =
      chosen_parts k n days seconds subseconds w (kept_items keep) (kept-lengths keep) (λ f. kept-each3 f keep)
      (λ e ds ss us l m h. subst (λ bs. list_all (λ b. b) bs ≡ true) (kept-each3 (canonical e) keep ds ss us l m) (all-kept (λ b. b) keep _ h)) d s u ed es eu
