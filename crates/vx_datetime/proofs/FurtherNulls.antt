-- Truth values that are null where another validity is false too.
use Rattle.std.proofs.Common.{◌≡◌, ◌∙◌, true, refl, List, length, map, sym, ap, subst, Bool, Some, None, Result}
use Rattle.std.specs.Prelude.{IfSome}
use Rattle.std.specs.List.{list_all, list_any}
use Rattle.std.proofs.lemmas.Bool.{cond_both, eq-eqb, false≢true}
use Rattle.std.proofs.lemmas.List.{length-map}
use Rattle.std.proofs.lemmas.Result.{MatchResult-weaker}
use Rattle.vx_base.specs.declared.dtype.Nullability.{Nullability}
use Rattle.vx_base.specs.declared.dtype.Nullability.TheVariants.{NonNullable, Nullable}
use Rattle.vx_base.specs.declared.error.VortexError.{VortexError}
use Rattle.vx_base.specs.declared.error.VortexError.TheVariants.{LengthMismatch}
use Rattle.vx_base.specs.Answers.{Decided, OrMemory, unless}
use Rattle.vx_base.specs.PlainScalar.{fits}
use Rattle.vx_base.specs.PlainType.{integer_of, or_nullable, with_nullability}
use Rattle.vx_base.specs.PlainType as types
use Rattle.vx_base.specs.PlainValue.{PlainValue, truth, is_null}
use Rattle.vx_base.specs.Timestamps.{PlainTimestamp}
use Rattle.vx_model.specs.Column.{column, column_of}
use Rattle.vx_model.specs.Plain.{validity, valid_bits}
use Rattle.vx_model.specs.Refusals.{kept, validity_length}
use Rattle.vx_model.specs.Rows.{rows, valid_rows}
use Rattle.vx_model.specs.Tree.{Tree, Validity, bool, datetime_parts}
use Rattle.vx_model.specs.TreeType.{tree_type}
use Rattle.vx_model.specs.WellFormed.{WellFormed}
use Rattle.vx_model.proofs.MadeLemmas.{rows_fit}
use Rattle.vx_model.proofs.RowLemmas.{length-masked_rows}
use Rattle.vx_rows.proofs.TruthLemmas.{kept-rows}
use Rattle.vx_rules.specs.Selections.{mask_refusal, masked}
use Rattle.vx_values.proofs.Cells.{length-flat_rows}
use Rattle.vx_datetime.proofs.AnswersColumn.{bits_long, no_null}
use Rattle.vx_datetime.proofs.StampTypes.{decided-or}

-- ---- or_nullable

pub nullable-last : (a : Nullability) → or_nullable a Nullable ≡ Nullable
nullable-last NonNullable = refl
nullable-last Nullable = refl

-- ---- the validity of another array's days

-- it has a bit for each truth value
pub further-long : (days other_days : Tree) (bits : List Bool) (valid further : Validity) (n : Nullability) → length bits ≡ length (rows days) → valid ≡ validity (rows days) → further ≡ validity (rows other_days)
    → length (rows other_days) ≡ length (rows days) → IfSome further (λ more. length more ≡ length (rows (bool bits (kept valid) n)))
further-long days other_days bits valid further n long of_valid of_further lengths =
    let own_long : validity_length valid (length (map truth bits)) ≡ true = (λ i. validity_length (of_valid i) (length-map bits truth i)) ∙ bits_long (rows days) (length bits) long in
    let size : length (rows (bool bits (kept valid) n)) ≡ length (rows days) =
    ap length (kept-rows valid (map truth bits) own_long ∙ ap (λ x. valid_rows x (map truth bits)) of_valid) ∙ length-flat_rows truth bits (validity (rows days)) (bits_long (rows days) (length bits) long) ∙ long
    in
    subst (λ x. IfSome x (λ more. length more ≡ length (rows (bool bits (kept valid) n)))) (sym of_further)
    (cond_both (list_any is_null (rows other_days)) (Some (valid_bits (rows other_days))) None (λ x. IfSome x (λ more. length more ≡ length (rows (bool bits (kept valid) n))))
    (λ some. length-map (rows other_days) _ ∙ lengths ∙ sym size) (λ none. tt))

-- where it has bits, the array is nullable, and so is the type of the answers
pub further-nullable : (k : PlainTimestamp) (m : Nullability) (days seconds subseconds : Tree) → WellFormed (datetime_parts k m days seconds subseconds) → (further : Validity) → further ≡ validity (rows days) → (n : Nullability) → (m ≡ Nullable → n ≡ Nullable)
    → IfSome further (λ more. types.boolean n ≡ types.boolean Nullable)
further-nullable k m days seconds subseconds w further of_further n so =
    subst (λ x. IfSome x (λ more. types.boolean n ≡ types.boolean Nullable)) (sym of_further)
    (cond_both (list_any is_null (rows days)) (Some (valid_bits (rows days))) None (λ x. IfSome x (λ more. types.boolean n ≡ types.boolean Nullable))
    (λ some. ap (λ x. types.boolean x) (so (nullable m (ap (λ t. list_all (fits t) (rows days)) (sym w.3.days_type) ∙ rows_fit days w.0) some))) (λ none. tt))
  where
    nullable : (b : Nullability) → list_all (fits (types.primitive (integer_of (tree_type days)) b)) (rows days) ≡ true → list_any is_null (rows days) ≡ true → b ≡ Nullable
    nullable Nullable h some = refl
    nullable NonNullable h some = let none = no_null (integer_of (tree_type days)) (rows days) h in absurd (false≢true (sym none ∙ some))

-- ---- rows beneath it

pub valid-long : (valid : Validity) (xs : List PlainValue) → IfSome valid (λ bits. length bits ≡ length xs) → length (valid_rows valid xs) ≡ length xs
valid-long None xs l = refl
valid-long (Some bits) xs l = length-masked_rows bits xs l

-- a mask over truth values of a nullable type
pub further-rows : (tree : Tree) (valid : Validity) (keep : List Bool) (result : Result Tree VortexError) → valid ≡ Some keep
    → IfSome valid (λ bits. length bits ≡ length (rows tree)) → IfSome valid (λ bits. tree_type tree ≡ types.boolean Nullable)
    → Decided (mask_refusal (column_of tree) keep) (λ out. column_of out ≡ masked (column_of tree) keep) result
    → OrMemory result (λ out. column_of out ≡ column (tree_type tree) (valid_rows valid (rows tree)))
further-rows tree valid keep result is lengths nullable decided =
    let long : length keep ≡ length (rows tree) = subst (λ x. IfSome x (λ bits. length bits ≡ length (rows tree))) is lengths in
    let typed : tree_type tree ≡ types.boolean Nullable = subst (λ x. IfSome x (λ bits. tree_type tree ≡ types.boolean Nullable)) is nullable in
    let unrefused : mask_refusal (column_of tree) keep ≡ None = ap (λ b. unless b LengthMismatch None) (eq-eqb (length keep) (length (rows tree)) long) in
    let stays : with_nullability (tree_type tree) Nullable ≡ tree_type tree = ap (λ t. with_nullability t Nullable) typed ∙ sym typed in
    MatchResult-weaker result (decided-or (mask_refusal (column_of tree) keep) (λ out. column_of out ≡ masked (column_of tree) keep) result unrefused decided)
    (λ out made. made ∙ (λ i. column (stays i) (valid_rows (sym is i) (rows tree)))) (λ e none. none)
