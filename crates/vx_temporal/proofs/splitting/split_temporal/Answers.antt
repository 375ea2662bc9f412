use Rattle.std.proofs.Common.{◌≡◌, ◌∙◌, ℤ, map, refl, sym, ap, subst, Option, Some, None, Err}
use Rattle.std.specs.Prelude.{IfSome, IsTrue}
use Rattle.vx_base.specs.declared.error.VortexError.{VortexError}
use Rattle.vx_base.specs.declared.error.VortexError.TheVariants.{DaysOutOfRange, MismatchedTypes}
use Rattle.vx_base.specs.PlainType.{nullability_of}
use Rattle.vx_base.specs.PlainValue.{whole_or_zero}
use Rattle.vx_base.specs.Timestamps.{divides}
use Rattle.vx_model.specs.Column.{column_of}
use Rattle.vx_model.specs.Rows.{rows}
use Rattle.vx_model.specs.TreeType.{tree_type}
use Rattle.vx_model.proofs.MadeLemmas.{rows_fit}
use Rattle.vx_time.specs.PartsOf.{units_per_second}
use Rattle.vx_temporal.specs.Joined.{joined, parts_refusal}
use Rattle.vx_temporal.specs.Settled.{Settled}
use Rattle.vx_temporal.specs.Split.{divisor_in, split_refusal, unit_in}
use Rattle.vx_temporal.specs.SplitOf.{AreSplit, IsSplitOf}
use Rattle.vx_temporal.specs.SplitRows.{days_refusal}
use Rattle.vx_temporal.proofs.Storages.{days-left, of-ok, passed-test, split-kept, stamps-divisor, type-passed, type-refused}
use Rattle.vx_temporal.proofs.splitting.split_temporal.Goals as goal

pub returns-in-None-clause-answer : goal.returns-in-None-clause-answer
returns-in-None-clause-answer c =
    let own = column_of c.args.array.now in
    let typed = ap unit_in (sym c.dtype.ensures) ∙ sym c.unit_of.ensures.unit ∙ c.in-None.is in
    subst (λ o. Settled o (split_refusal own) (IsSplitOf own) (Err MismatchedTypes)) (sym (type-refused own typed)) refl

pub returns-in-Some-clause-answer : goal.returns-in-Some-clause-answer
returns-in-Some-clause-answer c =
    let own = column_of c.args.array.now in
    let unit = c.in-Some.unit in
    let typed : unit_in (tree_type c.args.array.now) ≡ Some unit = ap unit_in (sym c.dtype.ensures) ∙ sym c.unit_of.ensures.unit ∙ c.in-Some.is in
    let some = subst (λ o. IfSome o (λ u. IsTrue (divides u))) c.in-Some.is c.unit_of.ensures.divides in
    let first = sym (type-passed own unit typed) in
    let later = sym (days-left own unit typed some) in
    let d = stamps-divisor own.dtype unit typed in
    subst (λ (x : Option VortexError × Option VortexError × ℤ). Settled x.0 x.1 (AreSplit x.2 (nullability_of own.dtype) own.values) c.split_stamps.result) (λ i. (first i, later i, d i)) c.split_stamps.ensures

pub returns-in-Some-clause-accepted : goal.returns-in-Some-clause-accepted
returns-in-Some-clause-accepted c =
    let t = tree_type c.args.array.now in
    let vs = rows c.args.array.now in
    let unit = c.in-Some.unit in
    let typed : unit_in t ≡ Some unit = ap unit_in (sym c.dtype.ensures) ∙ sym c.unit_of.ensures.unit ∙ c.in-Some.is in
    let some = subst (λ o. IfSome o (λ u. IsTrue (divides u))) c.in-Some.is c.unit_of.ensures.divides in
    let d = units_per_second unit in
    of-ok (days_refusal d (map whole_or_zero vs)) (AreSplit d (nullability_of t) vs) (λ p. parts_refusal t p.days p.seconds p.subseconds ≡ None) c.split_stamps.result c.split_stamps.ensures
    (λ p none s. (split-kept t unit vs p.days p.seconds p.subseconds typed some (rows_fit c.args.array.now c.known.ensures) (passed-test _ DaysOutOfRange none) s.days s.seconds s.subseconds).0)

pub returns-in-Some-clause-kept : goal.returns-in-Some-clause-kept
returns-in-Some-clause-kept c =
    let t = tree_type c.args.array.now in
    let vs = rows c.args.array.now in
    let unit = c.in-Some.unit in
    let typed : unit_in t ≡ Some unit = ap unit_in (sym c.dtype.ensures) ∙ sym c.unit_of.ensures.unit ∙ c.in-Some.is in
    let some = subst (λ o. IfSome o (λ u. IsTrue (divides u))) c.in-Some.is c.unit_of.ensures.divides in
    let d = units_per_second unit in
    of-ok (days_refusal d (map whole_or_zero vs)) (AreSplit d (nullability_of t) vs) (λ p. joined (divisor_in t) p.days p.seconds p.subseconds ≡ vs) c.split_stamps.result c.split_stamps.ensures
    (λ p none s. (split-kept t unit vs p.days p.seconds p.subseconds typed some (rows_fit c.args.array.now c.known.ensures) (passed-test _ DaysOutOfRange none) s.days s.seconds s.subseconds).1)
