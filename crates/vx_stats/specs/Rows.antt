-- Counts of rows of any type.
use Rattle.std.specs.Prelude.{ℕ, List, count_by, not}
use Rattle.vx_base.specs.PlainValue.{PlainValue, is_null}

-- the number of rows that are not null
abbrev pub valid_count : List PlainValue → ℕ
valid_count values = count_by (λ v. not (is_null v)) values
