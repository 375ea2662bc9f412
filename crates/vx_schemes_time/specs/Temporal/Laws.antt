-- The days, the seconds and the subseconds of a column are columns, and give its rows back.
use Rattle.std.proofs.Common.{◌≡◌, ◌∙◌, ◌<ℤ◌, ℤ, pos, Bool, true, false, List, [], ◌∷◌, map, Some, None, refl, sym, ap, arith}
use Rattle.std.specs.Prelude.{if◌then◌else◌, All}
use Rattle.std.specs.List.{list_all}
use Rattle.std.proofs.lemmas.List.{length-map}
use Rattle.std.proofs.lemmas.List.Elements.{All-from_recursion, recursion_from_All}
use Rattle.vx_base.specs.declared.dtype.Nullability.{Nullability}
use Rattle.vx_base.specs.declared.dtype.Nullability.TheVariants.{NonNullable}
use Rattle.vx_base.specs.PlainScalar.{fits}
use Rattle.vx_base.specs.PlainType.{PlainType, integer_of}
use Rattle.vx_base.specs.PlainType as types
use Rattle.vx_base.specs.PlainValue.{PlainValue}
use Rattle.vx_base.specs.Timestamps.{PlainTimestamp, divides}
use Rattle.vx_model.specs.Column.{Column, IsColumn, column, column_of}
use Rattle.vx_model.specs.Refusals.{datetime_parts_refusal}
use Rattle.vx_model.specs.Rows.{each_int}
use Rattle.vx_model.specs.Tree.{Tree, datetime_parts}
use Rattle.vx_model.specs.WellFormed.{WellFormed, is_whole_type}
use Rattle.vx_model.proofs.DateTimePartsLemmas.{datetime_parts_accepted}
use Rattle.vx_scheme.specs.Lawful.{IsPart}
use Rattle.vx_scheme.specs.Meaning.{finished, kept, parts}
use Rattle.vx_schemes_common.specs.StandsFor.{StandsFor}
use Rattle.vx_schemes_common.specs.Triples.{triple_of}
use Rattle.vx_temporal.specs.Split.{day_fits, days_of, others_of, or_zero}
use Rattle.vx_temporal.specs.SplitRows.{day_in, second_in, subsecond_in}
use Rattle.vx_temporal.proofs.PartColumns.{unit-positive, unit-small, days-fit, others-fit}
use Rattle.vx_temporal.proofs.SmallParts.{second-small, subsecond-small}
use Rattle.vx_temporal.proofs.SplitJoins.{parts-accepted, parts-join}
use Rattle.vx_time.specs.PartsOf.{units_per_second}
use Rattle.vx_time.proofs.Held.{lies_in-I32}
use Rattle.vx_schemes_time.specs.NarrowestLaws.{narrowed-column}
use Rattle.vx_schemes_time.specs.Temporal.Tree.{is_splittable, narrowed_days, narrowed_seconds, narrowed_subseconds, all_days_fit, three_columns, parts_or_kept, joined_or_plain}

-- ---- the split

pub parts-unfinished : (c : Column) (tree : Tree) → parts_or_kept c ≡ finished tree → ⊥
parts-unfinished c tree e = by_test (all_days_fit c) e
  where
    by_test : (b : Bool) → (if b then parts (three_columns c) else kept) ≡ finished tree → ⊥
    by_test true h = cc
    by_test false h = cc

-- where there are parts, all days fit, and they are the three
pub parts-are : (c : Column) (columns : List Column) → parts_or_kept c ≡ parts columns → (all_days_fit c ≡ true) × (three_columns c ≡ columns)
parts-are c columns e = by_test (all_days_fit c) refl e
  where
    by_test : (b : Bool) → all_days_fit c ≡ b → (if b then parts (three_columns c) else kept) ≡ parts columns → (all_days_fit c ≡ true) × (three_columns c ≡ columns)
    by_test true is h = (is, cc)
    by_test false is h = absurd cc

-- ---- timestamps of a kind

module _ (k : PlainTimestamp) (n : Nullability) (vs : List PlainValue) (some : divides k.unit ≡ true) (fit : list_all (fits (types.timestamp k n)) vs ≡ true) (held : list_all (day_fits (units_per_second k.unit)) vs ≡ true) where
  abbrev d : ℤ
  d = units_per_second k.unit

  abbrev own : Column
  own = column (types.timestamp k n) vs

  positive : pos 0 <ℤ units_per_second k.unit
  positive = unit-positive k.unit some

  days-column : IsColumn (days_of (units_per_second k.unit) n vs)
  days-column = days-fit k n positive vs fit held

  seconds-column : IsColumn (others_of (second_in (units_per_second k.unit)) vs)
  seconds-column = others-fit k n positive (second_in d) (λ z. lies_in-I32 (second_in d z) (second-small d z positive)) vs

  subseconds-column : IsColumn (others_of (subsecond_in (units_per_second k.unit)) vs)
  subseconds-column = others-fit k n positive (subsecond_in d) (λ z. lies_in-I32 (subsecond_in d z) (subsecond-small d z positive (unit-small k.unit))) vs

  small-of-kind : All (IsPart (column (types.timestamp k n) vs)) (three_columns (column (types.timestamp k n) vs))
  small-of-kind =
      let days : IsPart own (narrowed_days own) = record { column = narrowed-column n (days_of d n vs).values days-column; leaf = refl; rows = omega (arith, length-map vs (each_int (day_in d))) } in
      let seconds : IsPart own (narrowed_seconds own) = record { column = narrowed-column NonNullable (others_of (second_in d) vs).values seconds-column; leaf = refl; rows = omega (arith, length-map vs (or_zero (second_in d))) } in
      let subseconds : IsPart own (narrowed_subseconds own) = record { column = narrowed-column NonNullable (others_of (subsecond_in d) vs).values subseconds-column; leaf = refl; rows = omega (arith, length-map vs (or_zero (subsecond_in d))) } in
      All-from_recursion (IsPart own) (three_columns own) (days, (seconds, (subseconds, tt)))

  module _ (days seconds subseconds : Tree) (a : column_of days ≡ narrowed_days (column (types.timestamp k n) vs)) (b : column_of seconds ≡ narrowed_seconds (column (types.timestamp k n) vs))
      (e : column_of subseconds ≡ narrowed_subseconds (column (types.timestamp k n) vs)) where
    pub admitted-of-kind : datetime_parts_refusal k n days seconds subseconds ≡ None
    admitted-of-kind =
        let typed = ap (λ c. c.dtype) a in
        parts-accepted k n positive vs fit days seconds subseconds (ap (λ c. c.values) a) (ap (λ c. c.values) b) (ap (λ c. c.values) e)
        (typed ∙ ap (λ t. types.primitive (integer_of t) n) (sym typed)) (ap (λ c. is_whole_type c.dtype) b) (ap (λ c. is_whole_type c.dtype) e)

    stand-of-kind : WellFormed days → WellFormed seconds → WellFormed subseconds → StandsFor (datetime_parts k n days seconds subseconds) (column (types.timestamp k n) vs)
    stand-of-kind x y z =
        let back = parts-join k n positive vs fit days seconds subseconds (ap (λ c. c.values) a) (ap (λ c. c.values) b) (ap (λ c. c.values) e) in
        (datetime_parts_accepted k n days seconds subseconds admitted-of-kind x y z, ap (column (types.timestamp k n)) back)

-- ---- any column that is taken

pub parts-small : (c : Column) → is_splittable c.dtype ≡ true → IsColumn c → all_days_fit c ≡ true → All (IsPart c) (three_columns c)
parts-small c j h held = by_type c.dtype c.values j h held
  where
    by_type : (t : PlainType) (vs : List PlainValue) → is_splittable t ≡ true → IsColumn (column t vs) → all_days_fit (column t vs) ≡ true → All (IsPart (column t vs)) (three_columns (column t vs))
    by_type (types.timestamp k n) vs some fit fits-all = small-of-kind k n vs some fit fits-all
    by_type t vs some fit fits-all = absurd cc

pub parts-stand : (c : Column) (days seconds subseconds : Tree) → is_splittable c.dtype ≡ true → IsColumn c → all_days_fit c ≡ true → WellFormed days → WellFormed seconds → WellFormed subseconds
    → column_of days ≡ narrowed_days c → column_of seconds ≡ narrowed_seconds c → column_of subseconds ≡ narrowed_subseconds c → StandsFor (joined_or_plain c (Some (days, seconds, subseconds))) c
parts-stand c days seconds subseconds j h held x y z a b e = by_type c.dtype c.values j h held a b e
  where
    by_type : (t : PlainType) (vs : List PlainValue) → is_splittable t ≡ true → IsColumn (column t vs) → all_days_fit (column t vs) ≡ true
        → column_of days ≡ narrowed_days (column t vs) → column_of seconds ≡ narrowed_seconds (column t vs) → column_of subseconds ≡ narrowed_subseconds (column t vs)
        → StandsFor (joined_or_plain (column t vs) (Some (days, seconds, subseconds))) (column t vs)
    by_type (types.timestamp k n) vs some fit fits-all f g i = stand-of-kind k n vs some fit fits-all days seconds subseconds f g i x y z
    by_type t vs some fit fits-all f g i = absurd cc

pub joined : (c : Column) (trees : List Tree) → is_splittable c.dtype ≡ true → IsColumn c → all_days_fit c ≡ true → All WellFormed trees → map column_of trees ≡ three_columns c → StandsFor (joined_or_plain c (triple_of trees)) c
joined c [] j h held well fit = absurd cc
joined c (days ∷ []) j h held well fit = absurd cc
joined c (days ∷ seconds ∷ []) j h held well fit = absurd cc
joined c (days ∷ seconds ∷ subseconds ∷ []) j h held well fit =
    let each = recursion_from_All WellFormed (days ∷ seconds ∷ subseconds ∷ []) well in
    let a : column_of days ≡ narrowed_days c = cc in
    let b : column_of seconds ≡ narrowed_seconds c = cc in
    let e : column_of subseconds ≡ narrowed_subseconds c = cc in
    parts-stand c days seconds subseconds j h held each.0 each.1.0 each.1.1.0 a b e
joined c (days ∷ seconds ∷ subseconds ∷ tree ∷ trees) j h held well fit = absurd cc
