-- A Constant as long as a column, as an operand of a row function: its value in each row.
use Rattle.std.proofs.Common.{◌≡◌, ◌∙◌, ℕ, length, sym, ap, subst, Option, Result}
use Rattle.std.specs.Prelude.{replicate}
use Rattle.vx_base.specs.declared.error.VortexError.{VortexError}
use Rattle.vx_base.specs.Answers.{Decided}
use Rattle.vx_base.specs.PlainScalar.{PlainScalar}
use Rattle.vx_model.specs.Column.{Column, column, column_of}
use Rattle.vx_model.specs.Rows.{rows}
use Rattle.vx_model.specs.Tree.{Tree, constant}
use Rattle.vx_rules.specs.Operations.{repeated}

module _ (whole t : Tree) (is : whole ≡ t) where
  repeats : (other : Tree) (s : PlainScalar) (n : ℕ) → n ≡ length (rows whole) → other ≡ constant s n → repeated s (column_of t) ≡ column_of other
  repeats other s n len e = ap (λ u. repeated s (column_of u)) (sym is) ∙ ap (λ m. column s.dtype (replicate m s.value)) (sym len) ∙ ap column_of (sym e)

  -- what is decided of the tree and a value is decided of the array and the Constant
  module _ (refusal : Column → Column → Option VortexError) (answer : Column → Column → Column) (result : Result Tree VortexError) where
    pub by-constant : (other : Tree) (s : PlainScalar) (n : ℕ) → n ≡ length (rows whole) → other ≡ constant s n
        → Decided (refusal (column_of t) (repeated s (column_of t))) (λ out. column_of out ≡ answer (column_of t) (repeated s (column_of t))) result
        → Decided (refusal (column_of whole) (column_of other)) (λ out. column_of out ≡ answer (column_of whole) (column_of other)) result
    by-constant other s n len e d =
        subst (λ u. Decided (refusal (column_of u) (column_of other)) (λ out. column_of out ≡ answer (column_of u) (column_of other)) result) (sym is)
        (subst (λ c. Decided (refusal (column_of t) c) (λ out. column_of out ≡ answer (column_of t) c) result) (repeats other s n len e) d)

  -- the same with two operands
  module _ (refusal : Column → Column → Column → Option VortexError) (answer : Column → Column → Column → Column) (result : Result Tree VortexError) where
    abbrev Told : Column → Column → Column → Type 0
    Told c l h = Decided (refusal c l h) (λ out. column_of out ≡ answer c l h) result

    pub by-constants : (lower upper : Tree) (low high : PlainScalar) (n : ℕ) → n ≡ length (rows whole) → lower ≡ constant low n → upper ≡ constant high n
        → Told (column_of t) (repeated low (column_of t)) (repeated high (column_of t)) → Told (column_of whole) (column_of lower) (column_of upper)
    by-constants lower upper low high n len e f d =
        subst (λ u. Told (column_of u) (column_of lower) (column_of upper)) (sym is)
        (subst (λ c. Told (column_of t) c (column_of upper)) (repeats lower low n len e) (subst (λ c. Told (column_of t) (repeated low (column_of t)) c) (repeats upper high n len f) d))
