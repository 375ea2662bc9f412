-- The trees of a column's parts are admitted as timestamps in parts.
use Rattle.std.proofs.Common.{◌≡◌, Bool, true, false, List, [], ◌∷◌, map, refl, sym, subst, Some, None, if◌then◌else◌}
use Rattle.vx_base.specs.declared.dtype.Nullability.{Nullability}
use Rattle.vx_base.specs.PlainType.{PlainType}
use Rattle.vx_base.specs.PlainType as types
use Rattle.vx_base.specs.PlainValue.{PlainValue}
use Rattle.vx_base.specs.Timestamps.{PlainTimestamp}
use Rattle.vx_model.specs.Column.{Column, IsColumn, column, column_of}
use Rattle.vx_model.specs.Refusals.{datetime_parts_refusal}
use Rattle.vx_model.specs.Tree.{Tree}
use Rattle.vx_scheme.specs.Asked.{FitParts}
use Rattle.vx_scheme.specs.Meaning.{parts, kept}
use Rattle.vx_schemes_common.specs.Triples.{triple_of}
use Rattle.vx_schemes_common.proofs.TripleLemmas.{triple-fits}
use Rattle.vx_schemes_time.specs.Temporal.Laws.{admitted-of-kind}
use Rattle.vx_schemes_time.specs.Temporal.Tree.{is_splittable, narrowed_days, narrowed_seconds, narrowed_subseconds, all_days_fit, three_columns, parts_or_kept}

-- three trees are those of the parts, so all days fit
three-fitted : (c : Column) (trees : List Tree) (days seconds subseconds : Tree) → Some (days, seconds, subseconds) ≡ triple_of trees → FitParts (parts_or_kept c) trees → (all_days_fit c ≡ true) × (map column_of trees ≡ three_columns c)
three-fitted c trees days seconds subseconds three fit = by_test (all_days_fit c) refl fit
  where
    none : (ts : List Tree) → map column_of ts ≡ [] → Some (days, seconds, subseconds) ≡ triple_of ts → ⊥
    none [] e h = cc
    none (t ∷ ts) e h = cc

    by_test : (b : Bool) → all_days_fit c ≡ b → FitParts (if b then parts (three_columns c) else kept) trees → (all_days_fit c ≡ true) × (map column_of trees ≡ three_columns c)
    by_test true is f = (is, f)
    by_test false is f = absurd (none trees f three)

pub three-admitted : (c : Column) (k : PlainTimestamp) (n : Nullability) (trees : List Tree) (days seconds subseconds : Tree) → c.dtype ≡ types.timestamp k n → is_splittable c.dtype ≡ true → IsColumn c → Some (days, seconds, subseconds) ≡ triple_of trees
    → FitParts (parts_or_kept c) trees → datetime_parts_refusal k n days seconds subseconds ≡ None
three-admitted c k n trees days seconds subseconds typed dividing own three fit =
    let fitted = three-fitted c trees days seconds subseconds three fit in
    let all = triple-fits trees days seconds subseconds (narrowed_days c) (narrowed_seconds c) (narrowed_subseconds c) three fitted.1 in
    by_type c.dtype c.values typed dividing own fitted.0 all.0 all.1.0 all.1.1
  where
    by_type : (t : PlainType) (vs : List PlainValue) → t ≡ types.timestamp k n → is_splittable t ≡ true → IsColumn (column t vs) → all_days_fit (column t vs) ≡ true
        → column_of days ≡ narrowed_days (column t vs) → column_of seconds ≡ narrowed_seconds (column t vs) → column_of subseconds ≡ narrowed_subseconds (column t vs) → datetime_parts_refusal k n days seconds subseconds ≡ None
    by_type t vs is =
        subst (λ s. is_splittable s ≡ true → IsColumn (column s vs) → all_days_fit (column s vs) ≡ true → column_of days ≡ narrowed_days (column s vs) → column_of seconds ≡ narrowed_seconds (column s vs)
        → column_of subseconds ≡ narrowed_subseconds (column s vs) → datetime_parts_refusal k n days seconds subseconds ≡ None) (sym is)
        (λ some fits held a b e. admitted-of-kind k n vs some fits held days seconds subseconds a b e)
