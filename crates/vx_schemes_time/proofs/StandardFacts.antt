-- Worked values, counted by hand, so that a wrong rule in the definitions does not check.
use Rattle.std.specs.Prelude.{◌≡◌, [], ◌∷◌, None, Some, true, false, pos, negsuc, refl}
use Rattle.vx_base.specs.declared.dtype.Nullability.TheVariants.{NonNullable, Nullable}
use Rattle.vx_base.specs.declared.ptype.PType.TheVariants.{U8, U16, U32, U64, I8, I16, I32, I64}
use Rattle.vx_base.specs.declared.timestamp.TimeUnit.TheVariants.{Milliseconds, Seconds, Days}
use Rattle.vx_base.specs.PlainType as types
use Rattle.vx_base.specs.PlainValue.{null, int}
use Rattle.vx_base.specs.Timestamps.{kind}
use Rattle.vx_model.specs.Column.{column}
use Rattle.vx_model.specs.Plain.{plain}
use Rattle.vx_model.specs.Tree.{datetime_parts, nulls}
use Rattle.vx_scheme.specs.Meaning.{kept}
use Rattle.vx_schemes_time.specs.Narrowest.{narrowest}
use Rattle.vx_schemes_time.specs.Temporal.Tree.{is_splittable, narrowed_days, narrowed_seconds, narrowed_subseconds, all_days_fit, parts_or_kept, joined_or_plain}

-- 255 takes a byte, 256 two, 65,536 four and 2^32 eight; nulls alone and no row at all take a byte
pub narrowest-unsigned :
    (narrowest NonNullable (int (pos 255) ∷ []) ≡ U8) × (narrowest NonNullable (int (pos 0) ∷ int (pos 256) ∷ []) ≡ U16) × (narrowest Nullable (null ∷ int (pos 65_536) ∷ []) ≡ U32) × (narrowest NonNullable (int (pos 4_294_967_296) ∷ []) ≡ U64)
    × (narrowest Nullable (null ∷ null ∷ []) ≡ U8) × (narrowest NonNullable [] ≡ U8)
narrowest-unsigned = (refl, refl, refl, refl, refl, refl)

-- a negative value makes it signed: -128 and 127 take a byte, -1 and 128 two, -32,769 four and -2^31 - 1 eight
pub narrowest-signed :
    (narrowest NonNullable (int (negsuc 127) ∷ int (pos 127) ∷ []) ≡ I8) × (narrowest Nullable (int (negsuc 0) ∷ null ∷ int (pos 128) ∷ []) ≡ I16) × (narrowest NonNullable (int (negsuc 32_768) ∷ []) ≡ I32)
    × (narrowest NonNullable (int (negsuc 2_147_483_648) ∷ []) ≡ I64)
narrowest-signed = (refl, refl, refl, refl)

-- a day, an hour, a minute and 1.5 seconds after 1970 began; null; and 1.5 seconds before
pub parts-milliseconds :
    (narrowed_days (column (types.timestamp (kind Milliseconds None) Nullable) (int (pos 90_061_500) ∷ null ∷ int (negsuc 1_499) ∷ [])) ≡ column (types.primitive U8 Nullable) (int (pos 1) ∷ null ∷ int (pos 0) ∷ []))
    × (narrowed_seconds (column (types.timestamp (kind Milliseconds None) Nullable) (int (pos 90_061_500) ∷ null ∷ int (negsuc 1_499) ∷ [])) ≡ column (types.primitive I16 NonNullable) (int (pos 3_661) ∷ int (pos 0) ∷ int (negsuc 0) ∷ []))
    × (narrowed_subseconds (column (types.timestamp (kind Milliseconds None) Nullable) (int (pos 90_061_500) ∷ null ∷ int (negsuc 1_499) ∷ [])) ≡ column (types.primitive I16 NonNullable) (int (pos 500) ∷ int (pos 0) ∷ int (negsuc 499) ∷ []))
parts-milliseconds = (refl, refl, refl)

-- a column in seconds has no subseconds
pub parts-seconds : narrowed_subseconds (column (types.timestamp (kind Seconds None) NonNullable) (int (pos 90_061) ∷ int (negsuc 1) ∷ [])) ≡ column (types.primitive U8 NonNullable) (int (pos 0) ∷ int (pos 0) ∷ [])
parts-seconds = refl

-- the last second of day 2^31 - 1 and the first of day -2^31 fit, the second after and the one before don't; nor does such a row beside others, but null does
pub days-within :
    (all_days_fit (column (types.timestamp (kind Seconds None) NonNullable) (int (pos 185_542_587_187_199) ∷ int (negsuc 185_542_587_273_598) ∷ [])) ≡ true)
    × (all_days_fit (column (types.timestamp (kind Seconds None) NonNullable) (int (pos 0) ∷ int (pos 185_542_587_187_200) ∷ [])) ≡ false)
    × (parts_or_kept (column (types.timestamp (kind Seconds None) NonNullable) (int (negsuc 185_542_587_273_599) ∷ [])) ≡ kept)
    × (all_days_fit (column (types.timestamp (kind Seconds None) Nullable) (null ∷ [])) ≡ true)
days-within = (refl, refl, refl, refl)

-- timestamps alone are taken, and days are no unit of theirs
pub taken :
    (is_splittable (types.timestamp (kind Seconds None) Nullable) ≡ true) × (is_splittable (types.timestamp (kind Milliseconds (Some [])) NonNullable) ≡ true) × (is_splittable (types.timestamp (kind Days None) NonNullable) ≡ false) × (is_splittable (types.primitive I64 NonNullable) ≡ false)
taken = (refl, refl, refl, refl)

-- the trees stand in their order; without them the column stays plain
pub joined-trees :
    (joined_or_plain (column (types.timestamp (kind Seconds None) Nullable) []) (Some (nulls 1, nulls 2, nulls 3)) ≡ datetime_parts (kind Seconds None) Nullable (nulls 1) (nulls 2) (nulls 3))
    × (joined_or_plain (column (types.timestamp (kind Seconds None) Nullable) []) None ≡ plain (column (types.timestamp (kind Seconds None) Nullable) []))
joined-trees = (refl, refl)
