-- Sums, as the code holds them.
use Rattle.std.specs.Prelude.{ℤ, pos, Bool, true, ◌||◌, ◌==◌}
use Rattle.vx_base.specs.declared.ptype.PType.TheVariants.{I64, U64}
use Rattle.vx_base.specs.CellValue.{cell_value}
use Rattle.vx_base.specs.Integers.{lies_in}
use Rattle.vx_base.specs.PlainType.{PlainType, is_integer}
use Rattle.vx_base.specs.PlainValue.{PlainValue, int}
use Rattle.vx_rules.specs.Comparisons.{is_boolean}
use Rattle.vx_rows.specs.declared.lent.Lent.{Lent}
use Rattle.vx_rows.specs.declared.lent.Lent.TheVariants.{Same}
use Rattle.vx_rows.specs.declared.summing.Total.{Total}
use Rattle.vx_rows.specs.declared.summing.Total.TheVariants.{Signed, Unsigned}

-- the number
abbrev pub total_of : Total → ℤ
total_of (Signed z) = z
total_of (Unsigned n) = pos n

-- whether a value is an integer of 64 bits, signed or not, or none
abbrev pub is_word : PlainValue → Bool
is_word (int z) = lies_in I64 z || lies_in U64 z
is_word _ = true

-- whether one value in each row is summed within 128 bits
abbrev pub has_total : Lent → Bool
has_total (Same value len) = is_word (cell_value value) || len == 0
has_total _ = true

-- whether values of a type are summed: truth values and integers
abbrev pub is_summed : PlainType → Bool
is_summed t = is_boolean t || is_integer t
