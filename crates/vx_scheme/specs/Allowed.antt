-- Which encodings a tree may have.
use Rattle.std.specs.Prelude.{◌≡◌, Bool, true, false, not, ◌&&◌, Option, Some, None}
use Rattle.vx_base.specs.declared.array_id.ArrayId.{ArrayId}
use Rattle.vx_base.specs.declared.id_set.IdSet.{IdSet}
use Rattle.vx_base.specs.IdSets.{holds}
use Rattle.vx_scheme.specs.declared.allowed.AllowedIds.{AllowedIds}

-- the id is in the set; an absent set has every id
abbrev pub is_in : Option IdSet → ArrayId → Bool
is_in None id = true
is_in (Some set) id = holds set id

-- not excluded, and in each set that is present
abbrev pub is_allowed : AllowedIds → ArrayId → Bool
is_allowed allowed id = not (holds allowed.excluded id) && is_in allowed.registered id && is_in allowed.editions id

-- no bound: no set is present, and no id is excluded
pub record BoundsNothing (allowed : AllowedIds) : Type 0 where
  pub registered : allowed.registered ≡ None
  pub editions : allowed.editions ≡ None
  pub excluded : (id : ArrayId) → holds allowed.excluded id ≡ false
