-- The validity of the rows of a dictionary.
use Rattle.std.specs.Prelude.{ℤ, List, map, length, Some, None}
use Rattle.std.specs.List.{range_with_len}
use Rattle.vx_base.specs.declared.ptype.PType.{PType}
use Rattle.vx_model.specs.Decoded.{picks_valid}
use Rattle.vx_model.specs.Refusals.{kept}
use Rattle.vx_model.specs.Tree.{Validity}

-- a row is valid where its code is and the value that the code picks is; that of the codes where every value is valid
abbrev pub validity_by_codes : PType → List ℤ → Validity → Validity → Validity
validity_by_codes p codes valid None = valid
validity_by_codes p codes valid (Some bits) = kept (Some (map (picks_valid p bits valid codes) (range_with_len 0 (length codes))))
