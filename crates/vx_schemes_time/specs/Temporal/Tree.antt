-- What the scheme of timestamps makes of a column: its days, the seconds within each day and the subseconds within each second,
-- narrowed, and the tree over theirs.
use Rattle.std.specs.Prelude.{Bool, false, if◌then◌else◌, List, [], ◌∷◌, unwrap_or, Option, None, Some}
use Rattle.std.specs.List.{list_all}
use Rattle.vx_base.specs.PlainType.{PlainType, nullability_of}
use Rattle.vx_base.specs.PlainType as types
use Rattle.vx_base.specs.Timestamps.{divides}
use Rattle.vx_model.specs.Column.{Column}
use Rattle.vx_model.specs.Plain.{plain}
use Rattle.vx_model.specs.Tree.{Tree, datetime_parts}
use Rattle.vx_scheme.specs.Meaning.{PlainSplit, kept, parts}
use Rattle.vx_temporal.specs.Split.{day_fits, days_of, divisor_in, others_of}
use Rattle.vx_temporal.specs.SplitRows.{second_in, subsecond_in}
use Rattle.vx_schemes_time.specs.Narrowest.{narrowed}

-- whether it is a type of timestamps, all of whose units divide a second
abbrev pub is_splittable : PlainType → Bool
is_splittable (types.timestamp k n) = divides k.unit
is_splittable _ = false

-- the days, null where the rows are
abbrev pub narrowed_days : Column → Column
narrowed_days c = narrowed (days_of (divisor_in c.dtype) (nullability_of c.dtype) c.values)

-- the seconds of each row's day, 0 beneath nulls
abbrev pub narrowed_seconds : Column → Column
narrowed_seconds c = narrowed (others_of (second_in (divisor_in c.dtype)) c.values)

-- what is left within each row's second, 0 beneath nulls; 0 in all rows of a column in seconds
abbrev pub narrowed_subseconds : Column → Column
narrowed_subseconds c = narrowed (others_of (subsecond_in (divisor_in c.dtype)) c.values)

-- whether the day of every row that isn't null fits 32 signed bits
abbrev pub all_days_fit : Column → Bool
all_days_fit c = list_all (day_fits (divisor_in c.dtype)) c.values

-- the days as part 0, the seconds as part 1 and the subseconds as part 2
abbrev pub three_columns : Column → List Column
three_columns c = narrowed_days c ∷ narrowed_seconds c ∷ narrowed_subseconds c ∷ []

-- the parts, where all days fit; else the column stays plain
abbrev pub parts_or_kept : Column → PlainSplit
parts_or_kept c = if all_days_fit c then parts (three_columns c) else kept

-- the tree of a type of timestamps over the trees of days, seconds and subseconds; None without them, and of any other type
abbrev pub over_parts : PlainType → Option (Tree × Tree × Tree) → Option Tree
over_parts (types.timestamp k n) (Some three) = Some (datetime_parts k n three.0 three.1 three.2)
over_parts _ _ = None

-- that tree; the column's plain one where there is none
abbrev pub joined_or_plain : Column → Option (Tree × Tree × Tree) → Tree
joined_or_plain c three = unwrap_or (over_parts c.dtype three) (plain c)
