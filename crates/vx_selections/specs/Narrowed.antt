-- Validity where two conditions hold at once.
use Rattle.std.specs.Prelude.{◌≡◌, Bool, true, ◌&&◌, List, [], ◌∷◌, length, Some, None}
use Rattle.vx_base.specs.declared.dtype.Nullability.{Nullability}
use Rattle.vx_base.specs.PlainType.{nullability_of, or_nullable, with_nullability}
use Rattle.vx_model.specs.Column.{Column, column}
use Rattle.vx_model.specs.Refusals.{validity_allowed, validity_length}
use Rattle.vx_model.specs.Rows.{valid_rows}
use Rattle.vx_model.specs.Tree.{Validity}

-- true where both bits are; as long as the shorter
abbrev pub both : List Bool → List Bool → List Bool
both [] others = []
both (bit ∷ bits) [] = []
both (bit ∷ bits) (other ∷ others) = (bit && other) ∷ both bits others

-- the bits, false also where the validity is
abbrev pub also : Validity → List Bool → List Bool
also None bits = bits
also (Some own) bits = both own bits

-- valid where both validities are
abbrev pub narrowed : Validity → Validity → Validity
narrowed own None = own
narrowed own (Some bits) = Some (also own bits)

-- a column in the type with this nullability, null also where the validity is false
abbrev pub restricted : Validity → Nullability → Column → Column
restricted valid n c = column (with_nullability c.dtype n) (valid_rows valid c.values)

-- the validity has a bit for each row, and the nullability allows for it and for the column's own
pub record Restricts (valid : Validity) (n : Nullability) (c : Column) : Type 0 where
  pub long : validity_length valid (length c.values) ≡ true
  pub allowed : validity_allowed valid n ≡ true
  pub wider : or_nullable (nullability_of c.dtype) n ≡ n
