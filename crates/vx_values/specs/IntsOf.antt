-- Lists of integers of any type, as a type and whole numbers.
use Rattle.std.specs.Prelude.{ℤ, pos, List, map}
use Rattle.vx_base.specs.declared.ptype.PType.{PType}
use Rattle.vx_base.specs.declared.ptype.PType.TheVariants as kinds
use Rattle.vx_values.specs.declared.ints.Ints.{Ints}
use Rattle.vx_values.specs.declared.ints.Ints.TheVariants.{U8, U16, U32, U64, I8, I16, I32, I64}

-- the type of the integers
abbrev pub ptype_of : Ints → PType
ptype_of (U8 xs) = kinds.U8
ptype_of (U16 xs) = kinds.U16
ptype_of (U32 xs) = kinds.U32
ptype_of (U64 xs) = kinds.U64
ptype_of (I8 xs) = kinds.I8
ptype_of (I16 xs) = kinds.I16
ptype_of (I32 xs) = kinds.I32
ptype_of (I64 xs) = kinds.I64

-- the integers as whole numbers
abbrev pub wholes_of : Ints → List ℤ
wholes_of (U8 xs) = map (λ x. pos x) xs
wholes_of (U16 xs) = map (λ x. pos x) xs
wholes_of (U32 xs) = map (λ x. pos x) xs
wholes_of (U64 xs) = map (λ x. pos x) xs
wholes_of (I8 xs) = map (λ x. x) xs
wholes_of (I16 xs) = map (λ x. x) xs
wholes_of (I32 xs) = map (λ x. x) xs
wholes_of (I64 xs) = map (λ x. x) xs
