-- Sparse and run-end nodes: what their constructors have to show, and the search for a row's run.
use Rattle.std.proofs.Common.{◌≡◌, inl, inr, ◌<◌, ◌≤◌, ◌+◌, ◌-◌, ◌^◌, ◌∙◌, ℕ, List, length, Bool, None, Some, true, sym, ap, arith}
use Rattle.std.specs.Prelude.{◌&&◌, ◌==◌, not}
use Rattle.std.proofs.lemmas.Bool.{cases_lt, and_parts}
use Rattle.vx_base.specs.Answers.{unless}
use Rattle.vx_base.specs.PlainScalar.{PlainScalar, fits}
use Rattle.vx_base.specs.PlainType.{PlainType, is_integer, is_nullable}
use Rattle.vx_base.specs.PlainValue.{PlainValue}
use Rattle.vx_base.specs.declared.error.VortexError.TheVariants.{MismatchedTypes, LengthMismatch, OutOfBounds}
use Rattle.vx_model.specs.Refusals.{sparse_refusal, run_end_refusal}
use Rattle.vx_model.specs.Rows.{rows, offset_at}
use Rattle.vx_model.specs.Tree.{Tree, PlainPatches, sparse_of, run_end}
use Rattle.vx_model.specs.TreeType.{tree_type}
use Rattle.vx_model.specs.WellFormed.{WellFormed, WellFormedPatches, ascend}
use Rattle.vx_model.proofs.PackedLemmas.{passed}
use Rattle.vx_model.proofs.RunEndLemmas.{EndsBefore, EndsAbove, run_end_accepted, length-run_end, ends-rise, ends_before-start, ends_above-end, end-between}
use Rattle.vx_model.proofs.SparseLemmas.{sparse_accepted, length-sparse_of}
use Rattle.vx_array.specs.IsArray.{IsArray}
use Rattle.vx_array.proofs.SparseOf.{has_type-sparse_of}

pub sparse_array : (p : PlainPatches) (fill : PlainScalar) (len : ℕ) → sparse_refusal p fill ≡ None → fits fill.dtype fill.value ≡ true → WellFormedPatches p → len ≡ p.array_len → IsArray (sparse_of p fill) None len
sparse_array p fill len accepted fitting w len_is =
    record { well_formed = sparse_accepted p fill accepted fitting w; own_type_is = has_type-sparse_of p fill; len_is = len_is ∙ sym (length-sparse_of p fill) }

pub run_end_array : (ends values : Tree) (own : PlainType) (len : ℕ) → run_end_refusal ends values ≡ None → WellFormed ends → WellFormed values → own ≡ tree_type values → len ≡ offset_at (rows ends) (length (rows ends) - 1)
    → IsArray (run_end ends values) (Some own) len
run_end_array ends values own len accepted w u own_is len_is =
    record { well_formed = run_end_accepted ends values accepted w u; own_type_is = own_is; len_is = len_is ∙ sym (length-run_end ends values) }

-- what isn't refused has ends that rise
module _ (ends values : Tree) (h : run_end_refusal ends values ≡ None) where
  abbrev typed : Bool
  typed = is_integer (tree_type ends) && (not (is_nullable (tree_type ends)) && is_integer (tree_type values))

  abbrev same : Bool
  same = length (rows ends) == length (rows values)

  abbrev rising : Bool
  rising = ascend 1 (2 ^ 64) (rows ends)

  pub ends_whole : is_integer (tree_type ends) ≡ true
  ends_whole = (and_parts (is_integer (tree_type ends)) _ (passed typed MismatchedTypes (unless same LengthMismatch (unless rising OutOfBounds None)) h).0).0

  pub ends_rise : ascend 1 (2 ^ 64) (rows ends) ≡ true
  ends_rise =
      let first = passed typed MismatchedTypes (unless same LengthMismatch (unless rising OutOfBounds None)) h in
      let second = passed same LengthMismatch (unless rising OutOfBounds None) first.1 in
      (passed rising OutOfBounds None second.1).0

pub ruleset run_ends = (run_end_array, ends_whole, ends_rise)

-- ---- the search for the first end above a row

-- an end that is at most the row, and those before it
pub before-next : (low high : ℕ) (ends : List PlainValue) (i place : ℕ) → ascend low high ends ≡ true → place < length ends → offset_at ends place ≤ i → EndsBefore ends i (place + 1)
before-next low high ends i place e l m k below =
    elim (cases_lt k place) [
      | inl less ↦ let rising = ends-rise low high ends k place e less l in omega arith
      | inr more ↦ let same : k ≡ place = omega arith in let there = ap (offset_at ends) same in omega arith
    ]

-- one that lies above it, and those behind
pub above-next : (low high : ℕ) (ends : List PlainValue) (i place : ℕ) → ascend low high ends ≡ true → place < length ends → i < offset_at ends place → EndsAbove ends i place
above-next low high ends i place e l m k from within =
    elim (cases_lt place k) [
      | inl less ↦ let rising = ends-rise low high ends place k e less within in omega arith
      | inr more ↦ let same : k ≡ place = omega arith in let there = ap (offset_at ends) same in omega arith
    ]

-- no end needs more than 64 bits
pub end-few : (ends : List PlainValue) (k : ℕ) → ascend 1 (2 ^ 64) ends ≡ true → k < length ends → offset_at ends k < 2 ^ 64
end-few ends k e l = (end-between 1 (2 ^ 64) ends k e l).1

pub ruleset searches = (ends_before-start, ends_above-end, before-next, above-next)

pub ruleset few_ends = (end-few)
