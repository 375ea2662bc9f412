-- What bit packing makes of a column of integers. The rows are given as whole numbers, 0 beneath nulls, and a validity
-- bitmap.
use Rattle.std.specs.Prelude.{ℕ, ◌==◌, ℤ, pos, int_lt, Bool, ◌||◌, if◌then◌else◌, List, [], ◌∷◌, length, map, slice_index_or, Option, None, Some}
use Rattle.std.specs.List.{list_any}
use Rattle.vx_base.specs.declared.ptype.PType.{PType}
use Rattle.vx_base.specs.declared.ptype.PType.TheVariants.{U64}
use Rattle.vx_base.specs.declared.dtype.Nullability.{Nullability}
use Rattle.vx_base.specs.declared.dtype.Nullability.TheVariants.{NonNullable}
use Rattle.vx_base.specs.Integers.{bits_of, bits_in}
use Rattle.vx_base.specs.Packed.{bytes_in, packed_number, kept_rows, packed_size, wide_rows}
use Rattle.vx_base.specs.PlainType.{integer_of, nullability_of}
use Rattle.vx_base.specs.PlainValue.{whole_or_zero}
use Rattle.vx_model.specs.Column.{Column}
use Rattle.vx_model.specs.Plain.{valid_bits}
use Rattle.vx_model.specs.Refusals.{kept}
use Rattle.vx_model.specs.Tree.{Tree, PlainPatches, patches, plain_packed, packed_of, primitive}
use Rattle.vx_schemes.specs.Patches.Compressed.{compressed_patches}
use Rattle.vx_schemes.specs.Widths.{best_width_of}

-- the number is below 0
abbrev pub is_negative : ℤ → Bool
is_negative z = int_lt z (pos 0)

-- some value of the column is negative
abbrev pub has_negative : Column → Bool
has_negative c = list_any is_negative (map whole_or_zero c.values)

-- the rows packed at a width, in whole blocks of 1,024; a null and a wider row are 0
abbrev pub packed_bytes : PType → ℕ → List ℤ → List Bool → List ℕ
packed_bytes p width xs valid = bytes_in (packed_size width (length xs)) (packed_number width (kept_rows width (map (bits_in p) xs) valid))

-- the values of some rows, as patches
abbrev pub patches_at : PType → List ℤ → List ℕ → PlainPatches
patches_at p xs rows = patches (length xs) 0 (primitive U64 (map pos rows) None NonNullable) (primitive p (map (λ row. slice_index_or xs row (pos 0)) rows) None NonNullable)

-- as compressed patches; None where there are no rows
abbrev pub patches_of : PType → List ℤ → List ℕ → Option PlainPatches
patches_of p xs [] = None
patches_of p xs (row ∷ rows) = Some (compressed_patches (patches_at p xs (row ∷ rows)))

-- the rows packed at a width, and those that are wider as patches
abbrev pub packed_tree : PType → Nullability → List ℤ → List Bool → ℕ → Tree
packed_tree p n xs valid width =
    packed_of (plain_packed p width (packed_bytes p width xs valid) (length xs) (kept (Some valid)) n) (patches_of p xs (wide_rows width (map (bits_in p) xs) valid))

-- the rows packed at the width of least cost; None where a value is negative, or where that width is the type's
abbrev pub packing_of : PType → Nullability → List ℤ → List Bool → Option Tree
packing_of p n xs valid =
    if list_any is_negative xs || (best_width_of p xs valid == bits_of p) then None else Some (packed_tree p n xs valid (best_width_of p xs valid))

-- the packed tree of a column
abbrev pub bit_packing_made : Column → Option Tree
bit_packing_made c = packing_of (integer_of c.dtype) (nullability_of c.dtype) (map whole_or_zero c.values) (valid_bits c.values)
