-- What calls answer, as the rules of a step, of a command and of a list of commands do.
use Rattle.std.proofs.Common.{◌≡◌, ◌∙◌, ◌<◌, ◌+◌, ◌++◌, ◌∷◌, [], ℕ, List, Option, Some, None, Result, Ok, Err, drop, get_or, length, map, refl, sym, ap, subst, inl, inr, append_assoc}
use Rattle.std.specs.Prelude.{IsErrAnd}
use Rattle.std.proofs.lemmas.List.{append-nil, at_drop_more}
use Rattle.vx_base.specs.Answers.{Decided}
use Rattle.vx_base.specs.declared.error.VortexError.{VortexError}
use Rattle.vx_base.specs.declared.error.VortexError.TheVariants.{NoMemory, MismatchedTypes}
use Rattle.vx_document.specs.Commands.{PlainCommand}
use Rattle.vx_base.specs.PlainScalar.{PlainScalar}
use Rattle.vx_model.specs.Column.{Column, column_of}
use Rattle.vx_model.specs.Rows.{rows}
use Rattle.vx_model.specs.Tree.{Tree, constant}
use Rattle.vx_rules.specs.Operations.{PlainAnswer, PlainOp, PlainQuery, all_answered, all_applied, answered, applied, of_column, repeated}
use Rattle.vx_rules.specs.Outcomes.{Follows, and_then, outcome}
use Rattle.vx_query.specs.Queries.{PlainStep, line_of, mapped, or_mismatched, query_lines, stepped}
use Rattle.vx_query.specs.Steps.{answer_of, op_of}
use Rattle.vx_query.specs.declared.steps.RowAnswer.{RowAnswer}
use Rattle.vx_query.specs.declared.steps.RowAnswer.TheVariants as answers
use Rattle.vx_query.specs.declared.steps.RowOp.{RowOp}

-- ---- one call

-- what is decided by a refusal and an answer follows both
pub followed : {A B : Type 0} (refusal : Option VortexError) (answer : B) (Is : A → B → Type 0) (result : Result A VortexError) → Decided refusal (λ out. Is out answer) result
    → Follows (outcome refusal answer) Is result
followed None answer Is (Ok a) h = h
followed None answer Is (Err e) h = h
followed (Some f) answer Is (Ok a) h = h
followed (Some f) answer Is (Err e) h = inr h

-- the same of trees
pub following : (refusal : Option VortexError) (c : Column) (result : Result Tree VortexError) → Decided refusal (λ out. column_of out ≡ c) result
    → Follows (outcome refusal c) (λ out column. column_of out ≡ column) result
following refusal c result h = followed refusal c (λ out column. column_of out ≡ column) result h

-- a column as an answer
pub column-answered : (refusal : Option VortexError) (c : Column) (result : Result Tree VortexError) → Decided refusal (λ out. column_of out ≡ c) result
    → Follows (outcome refusal (of_column c)) (λ out answer. answer_of out ≡ answer) (mapped answers.Column result)
column-answered None c (Ok tree) h = ap of_column h
column-answered None c (Err e) h = h
column-answered (Some f) c (Ok tree) h = h
column-answered (Some f) c (Err e) h = inr h

-- a column that follows a rule, as an answer
pub column_followed : (refusal : Option VortexError) (c : Column) (result : Result Tree VortexError) → Follows (outcome refusal c) (λ out column. column_of out ≡ column) result
    → Follows (outcome refusal (of_column c)) (λ out answer. answer_of out ≡ answer) (mapped answers.Column result)
column_followed None c (Ok tree) h = ap of_column h
column_followed None c (Err e) h = h
column_followed (Some f) c (Ok tree) h = h
column_followed (Some f) c (Err e) h = h

-- a scalar in each row of a tree, as a tree
pub of_constant : (s : PlainScalar) (t own other : Tree) → other ≡ constant s (length (rows t)) → t ≡ own → column_of other ≡ repeated s (column_of own)
of_constant s t own other e h = ap column_of e ∙ ap (λ u. repeated s (column_of u)) h

-- want of memory may come in place of anything
pub no_memory : {A B : Type 0} (rule : Result B VortexError) (Is : A → B → Type 0) (e : VortexError) → e ≡ NoMemory → Follows rule Is (Err e)
no_memory (Ok answer) Is e h = h
no_memory (Err f) Is e h = inl h

-- an error that is handed on
pub handed-on : {A B : Type 0} (rule : Result B VortexError) (Is : A → B → Type 0) (result : Result A VortexError) (e : VortexError) → IsErrAnd result (λ f. f ≡ e) → Follows {A = A} rule Is (Err e) → Follows rule Is result
handed-on rule Is (Ok a) e h f = absurd h
handed-on rule Is (Err g) e h f = rw h f

-- ---- a step

-- the refusal of a rule is that of what is made of its answer
pub refused-mapped : {A B C D : Type 0} (rule : Result B VortexError) (f : B → D) (Is : A → B → Type 0) (Is_next : C → D → Type 0) (e : VortexError)
    → Follows rule Is (Err e) → Follows (mapped f rule) Is_next (Err e)
refused-mapped (Ok answer) f Is Is_next e h = h
refused-mapped (Err g) f Is Is_next e h = h

-- what a step leaves: a column, and a text with a piece behind it
abbrev pub IsLeft : List ℕ → List ℕ → Tree → Column × List ℕ → Type 0
IsLeft old new out left = (column_of out ≡ left.0) × (new ≡ old ++ left.1)

-- an operation prints nothing
pub operated : (rule : Result Column VortexError) (text : List ℕ) (result : Result Tree VortexError) → Follows rule (λ out column. column_of out ≡ column) result
    → Follows (mapped (λ d. (d, [])) rule) (IsLeft text text) result
operated (Ok c) text (Ok tree) h = (h, sym (append-nil text))
operated (Ok c) text (Err e) h = h
operated (Err f) text (Ok tree) h = h
operated (Err f) text (Err e) h = h

-- a query leaves the column
pub asked : (rule : Result PlainAnswer VortexError) (answer : RowAnswer) (old new : List ℕ) (tree : Tree) → Follows rule (λ out a. answer_of out ≡ a) (Ok answer) → new ≡ old ++ line_of (answer_of answer)
    → Follows (mapped (λ a. (column_of tree, line_of a)) rule) (IsLeft old new) (Ok tree)
asked (Ok a) answer old new tree h e = (refl, e ∙ ap (λ b. old ++ line_of b) h)
asked (Err f) answer old new tree h e = h

-- ---- a command

-- a command that is a step
pub commanded-step : {A : Type 0} (c : Column) (read : Option PlainStep) (step : PlainStep) (Is : A → Column × List ℕ → Type 0) (result : Result A VortexError) → read ≡ Some step
    → Follows (stepped c step) Is result → Follows (and_then (stepped c) (or_mismatched read)) Is result
commanded-step c read step Is result e h = rw e h

-- a command that is none
pub commanded-none : {A : Type 0} (c : Column) (read : Option PlainStep) (Is : A → Column × List ℕ → Type 0) → read ≡ None → Follows (and_then (stepped c) (or_mismatched read)) Is (Err MismatchedTypes)
commanded-none c read Is e = rw e (inr refl)

-- ---- commands, one after another

-- the lines of the commands behind a step, and what the step printed before them
abbrev pub lines_behind : List PlainCommand → Column × List ℕ → Result (List ℕ) VortexError
lines_behind others s = mapped (λ lines. s.1 ++ lines) (query_lines s.0 others)

-- two pieces before the others
mapped-pieces : (old piece : List ℕ) (rule : Result (List ℕ) VortexError) → mapped (λ lines. old ++ lines) (mapped (λ lines. piece ++ lines) rule) ≡ mapped (λ lines. (old ++ piece) ++ lines) rule
mapped-pieces old piece (Ok lines) = ap Ok (sym (append_assoc old piece lines))
mapped-pieces old piece (Err e) = refl

-- the lines so far, and those of the commands behind
pub lines-next : (step : Result (Column × List ℕ) VortexError) (others : List PlainCommand) (old new : List ℕ) (tree : Tree) (all : Result (List ℕ) VortexError)
    → mapped (λ lines. old ++ lines) (and_then (lines_behind others) step) ≡ all → Follows step (IsLeft old new) (Ok tree) → mapped (λ lines. new ++ lines) (query_lines (column_of tree) others) ≡ all
lines-next (Ok s) others old new tree all e h =
    (λ i. mapped (λ lines. h.1 i ++ lines) (query_lines (h.0 i) others)) ∙ sym (mapped-pieces old s.1 (query_lines s.0 others)) ∙ e
lines-next (Err f) others old new tree all e h = absurd h

-- the first refusal is that of all
pub lines-refused : (step : Result (Column × List ℕ) VortexError) (others : List PlainCommand) (old new : List ℕ) (all : Result (List ℕ) VortexError) (e : VortexError) {A : Type 0} (Is : A → List ℕ → Type 0)
    → mapped (λ lines. old ++ lines) (and_then (lines_behind others) step) ≡ all → Follows step (IsLeft old new) (Err e) → Follows all Is (Err e)
lines-refused (Ok s) others old new all e Is p h = no_memory all Is e h
lines-refused (Err f) others old new all e Is p h = rw (← p) h

-- ---- operations one after another, and a query

-- an operation is answered, and those behind it go on from its answer
chain-next : (rule : Result Column VortexError) (ops : List PlainOp) (query : PlainQuery) (tree : Tree) → Follows rule (λ out column. column_of out ≡ column) (Ok tree)
    → and_then (answered query) (and_then (all_applied ops) rule) ≡ all_answered ops query (column_of tree)
chain-next (Ok c) ops query tree h = ap (all_answered ops query) (sym h)
chain-next (Err e) ops query tree h = absurd h

-- the first refusal is that of all
chain-refused : {A : Type 0} (rule : Result Column VortexError) (ops : List PlainOp) (query : PlainQuery) (Is : A → PlainAnswer → Type 0) (e : VortexError) → Follows {A = Tree} rule (λ out column. column_of out ≡ column) (Err e)
    → Follows (and_then (answered query) (and_then (all_applied ops) rule)) Is (Err e)
chain-refused (Ok c) ops query Is e h = no_memory (and_then (answered query) (all_applied ops c)) Is e h
chain-refused (Err f) ops query Is e h = h

ops-more : (ops : List RowOp) (i : ℕ) (op : RowOp) → i < length ops → op ≡ get_or ops i op → map op_of (drop i ops) ≡ op_of op ∷ map op_of (drop (i + 1) ops)
ops-more ops i op l e = at_drop_more (map op_of) ops i op l ∙ ap (λ o. op_of o ∷ map op_of (drop (i + 1) ops)) (sym e)

module _ (ops : List RowOp) (i : ℕ) (op : RowOp) (query : PlainQuery) (tree : Tree) (l : i < length ops) (is : op ≡ get_or ops i op) where
  -- those behind the first one that is left
  pub ops-next : (next : Tree) → Follows (applied (op_of op) (column_of tree)) (λ out column. column_of out ≡ column) (Ok next)
      → all_answered (map op_of (drop (i + 1) ops)) query (column_of next) ≡ all_answered (map op_of (drop i ops)) query (column_of tree)
  ops-next next h =
      sym (ap (λ left. all_answered left query (column_of tree)) (ops-more ops i op l is) ∙ chain-next (applied (op_of op) (column_of tree)) (map op_of (drop (i + 1) ops)) query next h)

  -- the first one that is left is refused
  pub ops-refused : {A : Type 0} (Is : A → PlainAnswer → Type 0) (e : VortexError) → Follows {A = Tree} (applied (op_of op) (column_of tree)) (λ out column. column_of out ≡ column) (Err e)
      → Follows (all_answered (map op_of (drop i ops)) query (column_of tree)) Is (Err e)
  ops-refused Is e h =
      subst (λ left. Follows (all_answered left query (column_of tree)) Is (Err e)) (sym (ops-more ops i op l is)) (chain-refused (applied (op_of op) (column_of tree)) (map op_of (drop (i + 1) ops)) query Is e h)
