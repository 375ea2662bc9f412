-- Worked values, so that a wrong rule in the definitions does not check.
use Rattle.std.proofs.Common.{arith}
use Rattle.std.specs.Prelude.{◌≡◌, ◌^◌, ◌-◌, pos, negsuc, List, [], ◌∷◌, ◌++◌, map, replicate, refl, ℤ}
use Rattle.vx_base.specs.PlainValue.{null, int, of_list}
use Rattle.vx_flat.specs.Columns.{columns_of, with_row}
use Rattle.vx_flat.specs.RunPlaces.{block_place, IsWord}

-- ---- runs in blocks

-- indices 4 and then 2 in the first block, and 3 in the second, whose values begin at 7
abbrev indices : List ℤ
indices = pos 4 ∷ replicate 1023 (pos 2) ++ pos 3 ∷ []

pub block_place-rows : map (block_place (pos 0 ∷ pos 7 ∷ []) indices) (0 ∷ 1 ∷ 1023 ∷ 1024 ∷ []) ≡ pos 4 ∷ pos 2 ∷ pos 2 ∷ pos 10 ∷ []
block_place-rows = refl

-- an offset may be below 0
pub block_place-below : block_place (negsuc 1 ∷ []) (pos 5 ∷ []) 0 ≡ pos 3
block_place-below = refl

pub words : IsWord (pos 0) × IsWord (pos (2 ^ 64 - 1))
words = ((omega arith, omega arith), (omega arith, omega arith))

-- ---- columns of structs

-- of three rows, the second of which has one value alone
pub columns_of-rows : columns_of 2 (of_list (int (pos 1) ∷ int (pos 2) ∷ []) ∷ of_list (int (pos 3) ∷ []) ∷ of_list (int (pos 5) ∷ int (pos 6) ∷ []) ∷ [])
    ≡ (int (pos 1) ∷ int (pos 3) ∷ int (pos 5) ∷ []) ∷ (int (pos 2) ∷ null ∷ int (pos 6) ∷ []) ∷ []
columns_of-rows = refl

-- with the third behind the others
pub with_row-last : with_row ((int (pos 1) ∷ int (pos 3) ∷ []) ∷ (int (pos 2) ∷ null ∷ []) ∷ []) (of_list (int (pos 5) ∷ int (pos 6) ∷ [])) ≡ (int (pos 1) ∷ int (pos 3) ∷ int (pos 5) ∷ []) ∷ (int (pos 2) ∷ null ∷ int (pos 6) ∷ []) ∷ []
with_row-last = refl
