-- Worked values: what `encode` answers, and patches with offset 0.
use Rattle.std.proofs.Common.{◌≡◌, ℕ, ℤ, pos, List, [], ◌∷◌, length, Option, None, Some, refl}
use Rattle.std.specs.Prelude.{Ok, Err, codes, option_map}
use Rattle.std.specs.Str.{is_utf8, chars}
use Rattle.vx_base.specs.declared.dtype.Nullability.TheVariants.{NonNullable, Nullable}
use Rattle.vx_base.specs.declared.error.VortexError.TheVariants.{MismatchedTypes, TooManyRows, CastRefused}
use Rattle.vx_base.specs.declared.ptype.PType.TheVariants.{U8, I32, U32, U64}
use Rattle.vx_base.specs.PlainScalar.{scalar}
use Rattle.vx_base.specs.PlainType as types
use Rattle.vx_base.specs.PlainValue.{PlainValue, null, int, bytes}
use Rattle.vx_model.specs.Column.{Column, column}
use Rattle.vx_model.specs.Tree.{Tree, PlainPatches, patches, primitive, var_bin_view, constant, sparse}
use Rattle.vx_sparse_array.specs.Encoded.{encoded}
use Rattle.vx_sparse_array.specs.Resolved.{patches_in, resolved}

abbrev i32 : Column
i32 = column (types.primitive I32 NonNullable) (int (pos 1) ∷ int (pos 1) ∷ int (pos 2) ∷ [])

-- the most frequent integer is the fill, and the other row a patch
pub encoded-integers : encoded i32 None ≡ Ok (sparse 3 0 (primitive U64 (pos 2 ∷ []) None NonNullable) (primitive I32 (pos 2 ∷ []) None NonNullable) (scalar (types.primitive I32 NonNullable) (int (pos 1))))
encoded-integers = refl

-- of two that are as frequent the lesser
pub encoded-least : encoded (column (types.primitive U8 NonNullable) (int (pos 7) ∷ int (pos 3) ∷ [])) None
    ≡ Ok (sparse 2 0 (primitive U64 (pos 0 ∷ []) None NonNullable) (primitive U8 (pos 7 ∷ []) None NonNullable) (scalar (types.primitive U8 NonNullable) (int (pos 3))))
encoded-least = refl

-- one value alone has no patch, and an empty column stays plain
pub encoded-none : (encoded (column (types.primitive U8 NonNullable) (int (pos 7) ∷ [])) None ≡ Ok (constant (scalar (types.primitive U8 NonNullable) (int (pos 7))) 1))
    × (encoded (column (types.primitive U8 NonNullable) []) None ≡ Ok (primitive U8 [] None NonNullable))
encoded-none = (refl, refl)

abbrev bytes? : List PlainValue → Column
bytes? values = column (types.primitive U8 Nullable) values

-- nulls alone are a Constant; of ten nulls and a value the value is a patch, whatever fill is requested; else a null fill patches every row
pub encoded-nulls : (encoded (bytes? (null ∷ null ∷ [])) None ≡ Ok (constant (scalar (types.primitive U8 Nullable) null) 2))
    × (encoded (bytes? (null ∷ null ∷ null ∷ null ∷ null ∷ int (pos 9) ∷ null ∷ null ∷ null ∷ null ∷ null ∷ [])) (Some (scalar (types.primitive U8 NonNullable) (int (pos 3))))
    ≡ Ok (sparse 11 0 (primitive U32 (pos 5 ∷ []) None NonNullable) (primitive U8 (pos 9 ∷ []) None Nullable) (scalar (types.primitive U8 Nullable) null)))
    × (encoded (bytes? (int (pos 4) ∷ [])) (Some (scalar (types.primitive U8 Nullable) null))
    ≡ Ok (sparse 1 0 (primitive U64 (pos 0 ∷ []) None NonNullable) (primitive U8 (pos 4 ∷ []) None Nullable) (scalar (types.primitive U8 Nullable) null)))
encoded-nulls = (refl, refl, refl)

-- texts need a fill
pub encoded-texts : (encoded (column (types.utf8 NonNullable) (bytes (codes "a") ∷ [])) None ≡ Err MismatchedTypes)
    × (encoded (column (types.utf8 NonNullable) (bytes (codes "b") ∷ bytes (codes "ab") ∷ bytes (codes "b") ∷ [])) (Some (scalar (types.utf8 NonNullable) (bytes (codes "b"))))
    ≡ Ok (sparse 3 0 (primitive U64 (pos 1 ∷ []) None NonNullable) (var_bin_view (codes "ab" ∷ []) None (types.utf8 NonNullable)) (scalar (types.utf8 NonNullable) (bytes (codes "b")))))
unfolding is_utf8 chars lib.Utf8.encode
encoded-texts = (refl, refl)

-- a fill of another base, and null where the column has none
pub encoded-refused : (encoded i32 (Some (scalar (types.primitive U8 NonNullable) (int (pos 1)))) ≡ Err MismatchedTypes) × (encoded i32 (Some (scalar (types.primitive I32 Nullable) null)) ≡ Err CastRefused)
encoded-refused = (refl, refl)

-- one row more than 32 bits count
pub encoded-too_many : (c : Column) → length c.values ≡ 4_294_967_296 → encoded c None ≡ Err TooManyRows
encoded-too_many c e = rw e refl

-- ---- patches with offset 0

abbrev tens : Tree
tens = primitive I32 (pos 10 ∷ pos 20 ∷ pos 30 ∷ []) None NonNullable

abbrev at_rows : ℕ → List ℤ → Tree
at_rows offset indices = sparse 8 offset (primitive U8 indices None NonNullable) tens (scalar (types.primitive I32 NonNullable) (int (pos 1)))

abbrev resolved_at : Tree → Option PlainPatches
resolved_at t = option_map resolved (patches_in t)

-- indices with an offset and without one resolve alike; a tree without patches has none
pub resolved-offsets : (resolved_at (at_rows 0 (pos 1 ∷ pos 3 ∷ pos 5 ∷ [])) ≡ Some (patches 8 0 (primitive U64 (pos 1 ∷ pos 3 ∷ pos 5 ∷ []) None NonNullable) tens))
    × (resolved_at (at_rows 200 (pos 201 ∷ pos 203 ∷ pos 205 ∷ [])) ≡ Some (patches 8 0 (primitive U64 (pos 1 ∷ pos 3 ∷ pos 5 ∷ []) None NonNullable) tens))
    × (resolved_at tens ≡ None)
resolved-offsets = (refl, refl, refl)
