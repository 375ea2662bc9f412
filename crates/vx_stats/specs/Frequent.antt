-- The most frequent value as the getters return it.
use Rattle.std.specs.Prelude.{ℕ, ℤ, List, Option, option_map}
use Rattle.vx_base.specs.declared.ptype.PType.{PType}
use Rattle.vx_stats.specs.Distinct.{most_frequent}
use Rattle.vx_stats.specs.declared.integer.value.PValue.{PValue}

-- a value with its type, and its count
abbrev pub value_in : PType → ℤ × ℕ → PValue × ℕ
value_in p frequent = (record { ptype = p; value = frequent.0 }, frequent.1)

-- the most frequent value where there are value counts, else None
abbrev pub frequent_value : PType → Option (List (ℤ × ℕ)) → Option (PValue × ℕ)
frequent_value p counts = option_map (λ cs. value_in p (most_frequent cs)) counts
