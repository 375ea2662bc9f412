-- The words of the kernels at worked values: 10, 20 and 30 in rows 1, 3 and 5 of eight rows, over 1.
use Rattle.std.specs.Prelude.{◌≡◌, pos, [], ◌∷◌, refl, None, Some}
use Rattle.vx_base.specs.declared.dtype.Nullability.TheVariants.{NonNullable}
use Rattle.vx_base.specs.declared.ptype.PType.TheVariants.{U8, I32}
use Rattle.vx_base.specs.PlainScalar.{PlainScalar, scalar}
use Rattle.vx_base.specs.PlainType as types
use Rattle.vx_base.specs.PlainValue.{int, null}
use Rattle.vx_model.specs.Tree.{Tree, PlainPatches, patches, primitive, constant, sparse, sparse_of}
use Rattle.vx_sparse.specs.Kernels.{extremes, patch_count, row_values}
use Rattle.vx_sparse.specs.Slices.{sliced_tree}

abbrev indices : Tree
indices = primitive U8 (pos 1 ∷ pos 3 ∷ pos 5 ∷ []) None NonNullable

abbrev values : Tree
values = primitive I32 (pos 10 ∷ pos 20 ∷ pos 30 ∷ []) None NonNullable

abbrev three : PlainPatches
three = patches 8 0 indices values

abbrev one : PlainScalar
one = scalar (types.primitive I32 NonNullable) (int (pos 1))

pub counted : patch_count (sparse_of three one) ≡ 3
counted = refl

pub each_value : row_values three one ≡ int (pos 10) ∷ int (pos 20) ∷ int (pos 30) ∷ int (pos 1) ∷ []
each_value = refl

pub least_and_greatest : extremes (row_values three one) ≡ Some (int (pos 1), int (pos 30))
least_and_greatest = refl

pub no_extremes : extremes (null ∷ null ∷ []) ≡ None
no_extremes = refl

-- rows 2 to 5: two of the patches, by the offset 2
pub two_left : sliced_tree three one 2 6 ≡ sparse 4 2 (primitive U8 (pos 3 ∷ pos 5 ∷ []) None NonNullable) (primitive I32 (pos 20 ∷ pos 30 ∷ []) None NonNullable) one
two_left = refl

-- rows 6 and 7, and no rows
pub none_left : sliced_tree three one 6 8 ≡ constant one 2
none_left = refl

pub no_rows : sliced_tree three one 3 3 ≡ constant one 0
no_rows = refl

-- row 3 alone
pub all_left : sliced_tree three one 3 4 ≡ primitive I32 (pos 20 ∷ []) None NonNullable
all_left = refl
