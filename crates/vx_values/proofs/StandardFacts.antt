-- Worked values, so that a wrong rule in the definitions does not check.
use Rattle.std.specs.Prelude.{◌≡◌, ℕ, pos, true, false, Some, None, List, [], ◌∷◌, map, refl}
use Rattle.vx_base.specs.PlainValue.{PlainValue, int}
use Rattle.vx_model.specs.Rows.{below}
use Rattle.vx_values.specs.Placed.{run_of_row, by_runs, patch_place, by_patches, bits_in_rows, validity_by_runs, validity_by_patches}

-- ---- runs, which end at 2, 3 and 7

abbrev ends : List PlainValue
ends = int (pos 2) ∷ int (pos 3) ∷ int (pos 7) ∷ []

pub run_of_row-rows : below (run_of_row ends) 7 ≡ 0 ∷ 0 ∷ 1 ∷ 2 ∷ 2 ∷ 2 ∷ 2 ∷ []
run_of_row-rows = refl

pub by_runs-rows : by_runs {A = ℕ} ends (10 ∷ 20 ∷ 30 ∷ []) 0 ≡ 10 ∷ 10 ∷ 20 ∷ 30 ∷ 30 ∷ 30 ∷ 30 ∷ []
unfolding by_runs
by_runs-rows = refl

pub by_runs-none : by_runs {A = ℕ} [] (10 ∷ []) 0 ≡ []
unfolding by_runs
by_runs-none = refl

-- the second run is null; no run is
pub runs-validity : (validity_by_runs ends (Some (true ∷ false ∷ true ∷ [])) ≡ Some (true ∷ true ∷ false ∷ true ∷ true ∷ true ∷ true ∷ [])) × (validity_by_runs ends None ≡ None)
unfolding by_runs
runs-validity = (refl, refl)

-- ---- patches, of rows 11 and 14

abbrev indices : List PlainValue
indices = int (pos 11) ∷ int (pos 14) ∷ []

pub patch_place-rows : map (patch_place indices) (10 ∷ 11 ∷ 14 ∷ 15 ∷ []) ≡ 2 ∷ 0 ∷ 1 ∷ 2 ∷ []
patch_place-rows = refl

-- of the rows from 10 on
pub by_patches-rows : by_patches {A = ℕ} indices 10 6 (70 ∷ 80 ∷ []) 1 ≡ 1 ∷ 70 ∷ 1 ∷ 1 ∷ 80 ∷ 1 ∷ []
unfolding by_patches
by_patches-rows = refl

pub by_patches-none : by_patches {A = ℕ} [] 10 2 [] 1 ≡ 1 ∷ 1 ∷ []
unfolding by_patches
by_patches-none = refl

pub bits-in-rows : (bits_in_rows None 2 ≡ true ∷ true ∷ []) × (bits_in_rows (Some (false ∷ true ∷ [])) 2 ≡ false ∷ true ∷ [])
bits-in-rows = (refl, refl)

-- valid patches of a null fill, and of a valid one
pub patches-validity : (validity_by_patches indices 10 6 None false ≡ Some (false ∷ true ∷ false ∷ false ∷ true ∷ false ∷ [])) × (validity_by_patches indices 10 6 None true ≡ None)
unfolding by_patches
patches-validity = (refl, refl)
