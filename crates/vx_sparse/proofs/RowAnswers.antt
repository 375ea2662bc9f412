-- A row function of a sparse column, by what it answers for the patch values and for the fill in one row.
use Rattle.std.proofs.Common.{◌≡◌, ◌∙◌, ℕ, zero, suc, true, [], ◌∷◌, length, map, refl, sym, ap, subst, Option, None, Some, Result, Ok, Err}
use Rattle.std.specs.Prelude.{◌&&◌, ◌==◌, replicate, zip}
use Rattle.std.specs.Result.{IsErrAnd}
use Rattle.std.proofs.lemmas.Bool.{eq-eqb}
use Rattle.std.proofs.lemmas.List.{length-map, length-replicate}
use Rattle.vx_base.specs.declared.error.VortexError.{VortexError}
use Rattle.vx_base.specs.declared.error.VortexError.TheVariants.{LengthMismatch, MismatchedTypes, NoMemory}
use Rattle.vx_base.specs.Answers.{Answers, Decided, OrMemory, unless}
use Rattle.vx_base.specs.PlainScalar.{PlainScalar}
use Rattle.vx_base.specs.PlainType.{PlainType, is_flat, is_text, same_base}
use Rattle.vx_base.specs.PlainValue.{PlainValue}
use Rattle.vx_model.specs.Column.{Column, column, column_of}
use Rattle.vx_model.specs.Rows.{rows, row_at}
use Rattle.vx_model.specs.Tree.{Tree, PlainPatches, constant, sparse_of}
use Rattle.vx_model.specs.TreeType.{tree_type}
use Rattle.vx_model.proofs.SparseLemmas.{type-sparse_of}
use Rattle.vx_rules.specs.declared.options.BetweenOptions.{BetweenOptions}
use Rattle.vx_rules.specs.declared.options.CompareOperator.{CompareOperator}
use Rattle.vx_rules.specs.declared.options.LikeOptions.{LikeOptions}
use Rattle.vx_rules.specs.Comparisons.{between, between_refusal, compare_refusal, compared, comparison, is_boolean, negated, negation, not_refusal, truths_of, within_bounds}
use Rattle.vx_rules.specs.Operations.{repeated}
use Rattle.vx_rules.specs.Patterns.{like, like_refusal, liked}
use Rattle.vx_sparse.specs.RowAnswers.{AreAnswers, first_row, over_answers}
use Rattle.vx_sparse.proofs.MappedRows.{map-sparse, zip-repeated}

-- ---- refusals of an outcome

-- an error that is handed on is decided as it was
pub handed_on : {A : Type 0} (refusal : Option VortexError) (P : A → Type 0) (r : Result A VortexError) (e : VortexError) → IsErrAnd r (λ d. d ≡ e) → Decided refusal P (Err e) → Decided refusal P r
handed_on refusal P (Ok x) e h d = absurd h
handed_on refusal P (Err f) e h d = subst (λ (g : VortexError). Decided refusal P (Err g)) (sym h) d

-- a refusal says nothing of what would be answered
other-answer : {A B : Type 0} (refusal : Option VortexError) (P : A → Type 0) (Q : B → Type 0) (e : VortexError) → Decided refusal P (Err e) → Decided refusal Q (Err e)
other-answer None P Q e d = d
other-answer (Some f) P Q e d = d

not-refused : {A : Type 0} (refusal : Option VortexError) (P : A → Type 0) (a : A) → Decided refusal P (Ok a) → (refusal ≡ None) × P a
not-refused None P a d = (refl, d)
not-refused (Some e) P a d = absurd d

or_memory-as : {A : Type 0} (P : A → Type 0) (x : A) (result : Result A VortexError) → P x → Answers result x → OrMemory result P
or_memory-as P x (Ok a) h e = subst P (sym e) h
or_memory-as P x (Err f) h e = e

-- ---- functions of single rows

-- a row function that refuses by the column's type alone, and answers each row by its value alone
pub record IsSingle (refusal : Column → Option VortexError) (answer : Column → Column) : Type 0 where
  pub reason : PlainType → Option VortexError
  pub kind : PlainType → PlainType
  pub value : PlainValue → PlainValue
  pub refused : (c : Column) → refusal c ≡ reason c.dtype
  pub answered : (c : Column) → answer c ≡ column (kind c.dtype) (map value c.values)

module _ (refusal : Column → Option VortexError) (answer : Column → Column) (s : IsSingle refusal answer) (p : PlainPatches) (fill : PlainScalar) where
  -- what is decided of a tree
  abbrev Told : Tree → Result Tree VortexError → Type 0
  Told t result = Decided (refusal (column_of t)) (λ out. column_of out ≡ answer (column_of t)) result

  abbrev whole : Tree
  whole = sparse_of p fill

  -- two trees of one type are refused alike
  told-alike : (t : Tree) (e : VortexError) → tree_type t ≡ fill.dtype → Told t (Err e) → Told whole (Err e)
  told-alike t e same d =
      let alike : refusal (column_of t) ≡ refusal (column_of whole) = s.refused (column_of t) ∙ ap s.reason (same ∙ sym (type-sparse_of p fill)) ∙ sym (s.refused (column_of whole)) in
      subst (λ (o : Option VortexError). Decided o (λ out. column_of out ≡ answer (column_of whole)) (Err e)) alike
      (other-answer (refusal (column_of t)) (λ out. column_of out ≡ answer (column_of t)) (λ out. column_of out ≡ answer (column_of whole)) e d)

  told-none : (t out : Tree) → tree_type t ≡ fill.dtype → Told t (Ok out) → refusal (column_of whole) ≡ None
  told-none t out same d =
      s.refused (column_of whole) ∙ ap s.reason (type-sparse_of p fill ∙ sym same) ∙ sym (s.refused (column_of t))
      ∙ (not-refused (refusal (column_of t)) (λ x. column_of x ≡ answer (column_of t)) out d).0

  -- ---- at each exit of a kernel, which asks first for the patch values and then for the fill in one row

  pub values-refused : (v : Tree) (e : VortexError) (result : Result Tree VortexError) → v ≡ p.values → tree_type p.values ≡ fill.dtype → IsErrAnd result (λ d. d ≡ e) → Told v (Err e) → Told whole result
  values-refused v e result own typed handed d =
      handed_on (refusal (column_of whole)) (λ out. column_of out ≡ answer (column_of whole)) result e handed (told-alike v e (ap tree_type own ∙ typed) d)

  pub fill-uncopied : (v values : Tree) (e : VortexError) (result : Result Tree VortexError) → v ≡ p.values → tree_type p.values ≡ fill.dtype → IsErrAnd result (λ d. d ≡ e) → Told v (Ok values) → e ≡ NoMemory
      → Told whole result
  fill-uncopied v values e result own typed handed d memory =
      handed_on (refusal (column_of whole)) (λ out. column_of out ≡ answer (column_of whole)) result e handed
      (subst (λ (o : Option VortexError). Decided o (λ out. column_of out ≡ answer (column_of whole)) (Err e)) (sym (told-none v values (ap tree_type own ∙ typed) d)) memory)

  pub fill-refused : (row : Tree) (e : VortexError) (result : Result Tree VortexError) → row ≡ constant fill 1 → IsErrAnd result (λ d. d ≡ e) → Told row (Err e) → Told whole result
  fill-refused row e result own handed d =
      handed_on (refusal (column_of whole)) (λ out. column_of out ≡ answer (column_of whole)) result e handed (told-alike row e (ap tree_type own) d)

  module _ (v row values fills : Tree) (own : v ≡ p.values) (one : row ≡ constant fill 1) (d : Told v (Ok values)) (k : Told row (Ok fills)) where
    of-values : column_of values ≡ column (s.kind (tree_type p.values)) (map s.value (rows p.values))
    of-values = (not-refused (refusal (column_of v)) (λ x. column_of x ≡ answer (column_of v)) values d).1 ∙ s.answered (column_of v) ∙ ap (λ t. column (s.kind (tree_type t)) (map s.value (rows t))) own

    of-fill : column_of fills ≡ column (s.kind fill.dtype) (s.value fill.value ∷ [])
    of-fill = (not-refused (refusal (column_of row)) (λ x. column_of x ≡ answer (column_of row)) fills k).1 ∙ s.answered (column_of row) ∙ ap (λ t. column (s.kind (tree_type t)) (map s.value (rows t))) one

    pub are-answers : tree_type p.values ≡ fill.dtype → AreAnswers p values fills
    are-answers typed = record {
      lengths = ap (λ c. length c.values) of-values ∙ length-map (rows p.values) s.value;
      one = ap (λ c. length c.values) of-fill;
      typed = ap (λ c. c.dtype) of-values ∙ ap s.kind typed ∙ sym (ap (λ c. c.dtype) of-fill);
    }

    over-answers : column_of (over_answers p values fills) ≡ answer (column_of whole)
    over-answers =
        let kind : (first_row fills).dtype ≡ s.kind (tree_type whole) = ap (λ c. c.dtype) of-fill ∙ ap s.kind (sym (type-sparse_of p fill)) in
        let mapped : rows (over_answers p values fills) ≡ map s.value (rows whole) = map-sparse s.value p fill values (first_row fills) (ap (λ c. c.values) of-values) (ap (λ c. row_at c.values 0) of-fill) in
        (λ i. column (kind i) (mapped i)) ∙ sym (s.answered (column_of whole))

    pub answered-whole : (result : Result Tree VortexError) → tree_type p.values ≡ fill.dtype → Answers result (over_answers p values fills) → Told whole result
    answered-whole result typed e =
        subst (λ (o : Option VortexError). Decided o (λ out. column_of out ≡ answer (column_of whole)) result) (sym (told-none v values (ap tree_type own ∙ typed) d))
        (or_memory-as (λ out. column_of out ≡ answer (column_of whole)) (over_answers p values fills) result over-answers e)

-- ---- the functions

as-many : (n : ℕ) (v : PlainValue) → (n == length (replicate n v)) ≡ true
as-many n v = eq-eqb n (length (replicate n v)) (sym (length-replicate n v))

pub is-comparison : (op : CompareOperator) (s : PlainScalar) → IsSingle (λ c. compare_refusal c (repeated s c)) (λ c. comparison op c (repeated s c))
is-comparison op s = record {
  reason = λ t. unless (is_flat t && same_base t s.dtype) MismatchedTypes None;
  kind = λ t. truths_of t s.dtype;
  value = λ v. compared op v s.value;
  refused = λ c. ap (λ b. unless (is_flat c.dtype && same_base c.dtype s.dtype) MismatchedTypes (unless b LengthMismatch None)) (as-many (length c.values) s.value);
  answered = λ c. ap (column (truths_of c.dtype s.dtype)) (zip-repeated (λ q. compared op q.0 q.1) c.values s.value);
}

zip-replicates : (n : ℕ) (v w : PlainValue) → zip (replicate n v) (replicate n w) ≡ replicate n (v, w)
zip-replicates zero v w = refl
zip-replicates (suc n) v w = ap (λ rest. (v, w) ∷ rest) (zip-replicates n v w)

pub is-between : (options : BetweenOptions) (low high : PlainScalar)
    → IsSingle (λ c. between_refusal c (repeated low c) (repeated high c)) (λ c. between options c (repeated low c) (repeated high c))
is-between options low high = record {
  reason = λ t. unless (is_flat t && (same_base t low.dtype && same_base t high.dtype)) MismatchedTypes None;
  kind = λ t. truths_of t (truths_of low.dtype high.dtype);
  value = λ v. within_bounds options v low.value high.value;
  refused = λ c. λ i.
      unless (is_flat c.dtype && (same_base c.dtype low.dtype && same_base c.dtype high.dtype)) MismatchedTypes
      (unless (as-many (length c.values) low.value i && as-many (length c.values) high.value i) LengthMismatch None);
  answered = λ c. ap (column (truths_of c.dtype (truths_of low.dtype high.dtype)))
      (ap (λ bounds. map (λ q. within_bounds options q.0 q.1.0 q.1.1) (zip c.values bounds)) (zip-replicates (length c.values) low.value high.value)
      ∙ zip-repeated (λ q. within_bounds options q.0 q.1.0 q.1.1) c.values (low.value, high.value));
}

pub is-like : (options : LikeOptions) (pattern : PlainScalar) → IsSingle (λ c. like_refusal c (repeated pattern c)) (λ c. like options c (repeated pattern c))
is-like options pattern = record {
  reason = λ t. unless (is_text t && is_text pattern.dtype) MismatchedTypes None;
  kind = λ t. truths_of t pattern.dtype;
  value = λ v. liked options v pattern.value;
  refused = λ c. ap (λ b. unless (is_text c.dtype && is_text pattern.dtype) MismatchedTypes (unless b LengthMismatch None)) (as-many (length c.values) pattern.value);
  answered = λ c. ap (column (truths_of c.dtype pattern.dtype)) (zip-repeated (λ q. liked options q.0 q.1) c.values pattern.value);
}

pub is-negation : IsSingle not_refusal negation
is-negation = record {
  reason = λ t. unless (is_boolean t) MismatchedTypes None;
  kind = λ t. t;
  value = negated;
  refused = λ c. refl;
  answered = λ c. refl;
}
