-- Nulls by validity bits.
use Rattle.std.specs.Prelude.{ℕ, ◌-◌, length, None, Some}
use Rattle.vx_base.specs.Masks.{true_count}
use Rattle.vx_model.specs.Tree.{Validity}

-- the number of rows that aren't valid
abbrev pub nulls_in : Validity → ℕ
nulls_in None = 0
nulls_in (Some bits) = length bits - true_count bits
