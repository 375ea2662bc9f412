-- What a column of timestamps is split into, as parts that are narrowed; and what the answers of the split tell.
use Rattle.std.proofs.Common.{◌≡◌, ◌∙◌, ℤ, pos, Bool, true, false, List, [], ◌∷◌, length, refl, sym, ap, None, Ok, Err, inl, inr, if◌then◌else◌}
use Rattle.std.specs.Prelude.{int_lt, is_some}
use Rattle.std.proofs.lemmas.List.{length-map}
use Rattle.vx_base.specs.Answers.{unless}
use Rattle.vx_base.specs.declared.dtype.Nullability.{Nullability}
use Rattle.vx_base.specs.declared.dtype.Nullability.TheVariants.{NonNullable}
use Rattle.vx_base.specs.declared.error.VortexError.TheVariants.{DaysOutOfRange, MismatchedTypes}
use Rattle.vx_base.specs.declared.ptype.PType.TheVariants.{I32}
use Rattle.vx_base.specs.PlainType.{PlainType, nullability_of}
use Rattle.vx_base.specs.PlainType as types
use Rattle.vx_base.specs.PlainValue.{PlainValue}
use Rattle.vx_model.specs.Column.{Column, IsColumn, column, column_of}
use Rattle.vx_model.specs.Plain.{plain}
use Rattle.vx_model.specs.Rows.{rows}
use Rattle.vx_model.specs.Tree.{Tree}
use Rattle.vx_model.specs.TreeType.{tree_type}
use Rattle.vx_model.specs.WellFormed.{WellFormed}
use Rattle.vx_model.proofs.MadeLemmas.{rows_fit}
use Rattle.vx_scheme.specs.declared.split.Split.TheVariants.{Parts}
use Rattle.vx_scheme.specs.Meaning.{split_of, parts, kept}
use Rattle.vx_temporal.specs.declared.parts.TemporalParts.{TemporalParts}
use Rattle.vx_temporal.specs.Settled.{Settled}
use Rattle.vx_temporal.specs.Split.{days_of, divisor_in, or_zero, others_of, split_refusal, subseconds_tree, type_refusal, unit_in}
use Rattle.vx_temporal.specs.SplitOf.{IsSplitOf}
use Rattle.vx_temporal.specs.SplitRows.{second_in, subsecond_in}
use Rattle.vx_temporal.proofs.PartColumns.{unit-positive, unit-small}
use Rattle.vx_temporal.proofs.SplitJoins.{rows-days, rows-seconds, rows-subseconds, type-subseconds}
use Rattle.vx_time.specs.PartsOf.{units_per_second}
use Rattle.vx_schemes_time.specs.Narrowest.{narrowed}
use Rattle.vx_schemes_time.specs.Stored.{IsStored, constant_zeros}
use Rattle.vx_schemes_time.specs.Temporal.Tree.{is_splittable, all_days_fit, three_columns, parts_or_kept}

-- ---- the parts that are split off

-- each is stored as one of 32 bits or as zeros, and has the rows of its part
pub record AreStored (c : Column) (p : TemporalParts) : Type 0 where
  pub days : IsStored p.days
  pub seconds : IsStored p.seconds
  pub subseconds : IsStored p.subseconds
  pub day_column : column_of p.days ≡ days_of (divisor_in c.dtype) (nullability_of c.dtype) c.values
  pub second_column : column_of p.seconds ≡ others_of (second_in (divisor_in c.dtype)) c.values
  pub subsecond_column : column_of p.subseconds ≡ others_of (subsecond_in (divisor_in c.dtype)) c.values

stored-plain : (t : Tree) (n : Nullability) (c : Column) → t ≡ plain c → c.dtype ≡ types.primitive I32 n → column_of t ≡ c → IsStored t
stored-plain t n c is typed own =
    let type = ap (λ e. e.dtype) own ∙ typed in
    inl (record { own = is ∙ ap plain (sym own); integers = type ∙ ap (λ s. types.primitive I32 (nullability_of s)) (sym type) })

are-stored : (c : Column) (p : TemporalParts) → is_splittable c.dtype ≡ true → IsColumn c → all_days_fit c ≡ true → IsSplitOf c p → AreStored c p
are-stored c p dividing own fits s = by_type c.dtype c.values dividing own fits s
  where
    by_type : (t : PlainType) (vs : List PlainValue) → is_splittable t ≡ true → IsColumn (column t vs) → all_days_fit (column t vs) ≡ true → IsSplitOf (column t vs) p → AreStored (column t vs) p
    by_type (types.timestamp k n) vs some fit held split =
        let d = units_per_second k.unit in
        let positive = unit-positive k.unit some in
        let few = unit-small k.unit in
        let days = rows-days k n positive few vs fit held p.days p.seconds p.subseconds split.days split.seconds split.subseconds in
        let seconds = rows-seconds k n positive few vs fit held p.days p.seconds p.subseconds split.days split.seconds split.subseconds in
        let subseconds = rows-subseconds k n positive few vs fit held p.days p.seconds p.subseconds split.days split.seconds split.subseconds in
        let subsecond = type-subseconds k n positive few vs fit held p.days p.seconds p.subseconds split.days split.seconds split.subseconds in
        let day_typed : tree_type p.days ≡ types.primitive I32 n = ap tree_type split.days in
        let second_typed : tree_type p.seconds ≡ types.primitive I32 NonNullable = ap tree_type split.seconds in
        let day_column : column_of p.days ≡ days_of d n vs = λ i. column (day_typed i) (days i) in
        let second_column : column_of p.seconds ≡ others_of (second_in d) vs = λ i. column (second_typed i) (seconds i) in
        let subsecond_column : column_of p.subseconds ≡ others_of (subsecond_in d) vs = λ i. column (subsecond i) (subseconds i) in
        let long : length (rows p.subseconds) ≡ length vs = ap length subseconds ∙ length-map vs (or_zero (subsecond_in d)) in
        record {
          days = stored-plain p.days n (days_of d n vs) split.days refl day_column;
          seconds = stored-plain p.seconds NonNullable (others_of (second_in d) vs) split.seconds refl second_column;
          subseconds = by_test d vs (int_lt (pos 1) d) refl split.subseconds subsecond_column long;
          day_column = day_column;
          second_column = second_column;
          subsecond_column = subsecond_column;
        }
      where
        by_test : (d : ℤ) (vs : List PlainValue) (b : Bool) → int_lt (pos 1) d ≡ b → p.subseconds ≡ subseconds_tree d vs → column_of p.subseconds ≡ others_of (subsecond_in d) vs → length (rows p.subseconds) ≡ length vs → IsStored p.subseconds
        by_test d vs true is e own long = stored-plain p.subseconds NonNullable (others_of (subsecond_in d) vs) (e ∙ ap (λ b. if b then plain (others_of (subsecond_in d) vs) else constant_zeros (length vs)) is) refl own
        by_test d vs false is e own long = inr (e ∙ ap (λ b. if b then plain (others_of (subsecond_in d) vs) else constant_zeros (length vs)) is ∙ ap constant_zeros (sym long))
    by_type t vs some fit held split = absurd cc

pub three-made : (c : Column) (p : TemporalParts) → all_days_fit c ≡ true → AreStored c p
    → Parts (plain (narrowed (column_of p.days)) ∷ plain (narrowed (column_of p.seconds)) ∷ plain (narrowed (column_of p.subseconds)) ∷ []) ≡ split_of (parts_or_kept c)
three-made c p held s =
    (λ i. Parts (plain (narrowed (s.day_column i)) ∷ plain (narrowed (s.second_column i)) ∷ plain (narrowed (s.subsecond_column i)) ∷ []))
    ∙ sym (ap (λ b. split_of (if b then parts (three_columns c) else kept)) held)

pub kept-made : (c : Column) → all_days_fit c ≡ false → split_of kept ≡ split_of (parts_or_kept c)
kept-made c out = sym (ap (λ b. split_of (if b then parts (three_columns c) else kept)) out)

-- ---- what the answers tell

has-unit : (t : PlainType) → is_splittable t ≡ true → is_some (unit_in t) ≡ true
has-unit (types.timestamp k n) h = refl
has-unit t h = absurd cc

-- an Ok: all days fit, and these are the parts
split-ok : (c : Column) (p : TemporalParts) → is_splittable c.dtype ≡ true → Settled (type_refusal c.dtype) (split_refusal c) (IsSplitOf c) (Ok p) → (all_days_fit c ≡ true) × IsSplitOf c p
split-ok c p dividing h = by_tests (is_some (unit_in c.dtype)) (all_days_fit c) refl (has-unit c.dtype dividing) h
  where
    by_tests : (a b : Bool) → all_days_fit c ≡ b → a ≡ true → Settled (unless a MismatchedTypes None) (unless a MismatchedTypes (unless b DaysOutOfRange None)) (IsSplitOf c) (Ok p) → (all_days_fit c ≡ true) × IsSplitOf c p
    by_tests true true is e s = (is, s.1)
    by_tests true false is e s = let none = s.0 in absurd cc
    by_tests false b is e s = absurd cc

pub stored-parts : (t : Tree) (p : TemporalParts) → is_splittable (tree_type t) ≡ true → WellFormed t → Settled (type_refusal (tree_type t)) (split_refusal (column_of t)) (IsSplitOf (column_of t)) (Ok p) → (all_days_fit (column_of t) ≡ true) × AreStored (column_of t) p
stored-parts t p dividing well h = let made = split-ok (column_of t) p dividing h in (made.0, are-stored (column_of t) p dividing (rows_fit t well) made.0 made.1)

-- the Err of a day that doesn't fit
pub split-out : (c : Column) → is_splittable c.dtype ≡ true → Settled (type_refusal c.dtype) (split_refusal c) (IsSplitOf c) (Err DaysOutOfRange) → all_days_fit c ≡ false
split-out c dividing h = by_tests (is_some (unit_in c.dtype)) (all_days_fit c) refl (has-unit c.dtype dividing) h
  where
    by_tests : (a b : Bool) → all_days_fit c ≡ b → a ≡ true → Settled (unless a MismatchedTypes None) (unless a MismatchedTypes (unless b DaysOutOfRange None)) (IsSplitOf c) (Err DaysOutOfRange) → all_days_fit c ≡ false
    by_tests true true is e (inl memory) = absurd cc
    by_tests true true is e (inr none) = absurd cc
    by_tests true false is e s = is
    by_tests false b is e s = absurd cc
