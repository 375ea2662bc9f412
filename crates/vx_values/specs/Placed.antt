-- Rows that are filled by runs or by patches: the place of each row's item among the items of the runs or of the patches.
use Rattle.std.specs.Prelude.{ℕ, suc, ◌+◌, ◌-◌, pos, int_lt, Bool, false, true, List, [], ◌∷◌, length, replicate, slice_index_or, unwrap_or, option_map, cond, None, Some}
use Rattle.vx_base.specs.PlainValue.{PlainValue, whole_or_zero}
use Rattle.vx_model.specs.Refusals.{kept}
use Rattle.vx_model.specs.Rows.{below, offset_at, place_of}
use Rattle.vx_model.specs.Tree.{Validity}

-- in each of n rows the item at the row's place, `other` out of bounds
abbrev pub placed : {A : Type 0} → (ℕ → ℕ) → ℕ → List A → A → List A
placed place n items other = below (λ i. slice_index_or items (place i) other) n

-- the number of the run that row i lies in: the first one whose end is above i
abbrev pub run_of_row : List PlainValue → ℕ → ℕ
run_of_row [] i = 0
run_of_row (end ∷ ends) i = cond (int_lt (pos i) (whole_or_zero end)) 0 (suc (run_of_row ends i))

-- in each row the item of its run; as many rows as the last end
unfoldable pub by_runs : {A : Type 0} → List PlainValue → List A → A → List A
by_runs ends items other = placed (run_of_row ends) (offset_at ends (length ends - 1)) items other

-- the place of the patch with index n, and the number of patches where there is none
abbrev pub patch_place : List PlainValue → ℕ → ℕ
patch_place indices n = unwrap_or (place_of indices n) (length indices)

-- in row i the item of the patch with index `offset + i`, the fill where there is none
unfoldable pub by_patches : {A : Type 0} → List PlainValue → ℕ → ℕ → List A → A → List A
by_patches indices offset len items fill = placed (λ i. patch_place indices (offset + i)) len items fill

-- the validity bits of len rows, true in each where there are none
abbrev pub bits_in_rows : Validity → ℕ → List Bool
bits_in_rows None len = replicate len true
bits_in_rows (Some bits) len = bits

-- the validity of rows that are filled by runs, from that of the runs' values
abbrev pub validity_by_runs : List PlainValue → Validity → Validity
validity_by_runs ends valid = kept (option_map (λ bits. by_runs ends bits false) valid)

-- the validity of rows that are filled by patches, from that of the patches' values and whether the fill is valid
abbrev pub validity_by_patches : List PlainValue → ℕ → ℕ → Validity → Bool → Validity
validity_by_patches indices offset len valid fill = kept (Some (by_patches indices offset len (bits_in_rows valid (length indices)) fill))
