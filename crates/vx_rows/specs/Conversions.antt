-- Integers in another type.
use Rattle.std.specs.Prelude.{ℤ, pos, Bool, true, not, ◌&&◌, ◌||◌, if◌then◌else◌, List, [], ◌∷◌, None, Some}
use Rattle.std.specs.List.{list_all}
use Rattle.vx_base.specs.declared.ptype.PType.{PType}
use Rattle.vx_base.specs.Integers.{lies_in}
use Rattle.vx_model.specs.Tree.{Validity}

-- a number where the type holds it, else 0
abbrev pub whole_or_zero_in : PType → ℤ → ℤ
whole_or_zero_in p z = if lies_in p z then z else pos 0

-- whether a type holds each number whose bit is true
abbrev pub masked_in : PType → List Bool → List ℤ → Bool
masked_in p [] zs = true
masked_in p (bit ∷ bits) [] = true
masked_in p (bit ∷ bits) (z ∷ zs) = (not bit || lies_in p z) && masked_in p bits zs

-- whether a type holds each valid number
abbrev pub all_valid_in : PType → Validity → List ℤ → Bool
all_valid_in p None zs = list_all (lies_in p) zs
all_valid_in p (Some bits) zs = masked_in p bits zs
