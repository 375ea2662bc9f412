-- The integer types: widths and ranges.
use Rattle.std.specs.Prelude.{ℕ, ◌-◌, ◌^◌, nat_lt, Bool, true, false, ◌&&◌, ℤ, pos, negsuc}
use Rattle.vx_base.specs.declared.ptype.PType.{PType}
use Rattle.vx_base.specs.declared.ptype.PType.TheVariants.{U8, U16, U32, U64, I8, I16, I32, I64}

-- the width in bits
abbrev pub bits_of : PType → ℕ
bits_of U8 = 8
bits_of U16 = 16
bits_of U32 = 32
bits_of U64 = 64
bits_of I8 = 8
bits_of I16 = 16
bits_of I32 = 32
bits_of I64 = 64

-- the width in bytes
abbrev pub bytes_of : PType → ℕ
bytes_of U8 = 1
bytes_of U16 = 2
bytes_of U32 = 4
bytes_of U64 = 8
bytes_of I8 = 1
bytes_of I16 = 2
bytes_of I32 = 4
bytes_of I64 = 8

-- whether the type is signed
abbrev pub is_signed : PType → Bool
is_signed U8 = false
is_signed U16 = false
is_signed U32 = false
is_signed U64 = false
is_signed I8 = true
is_signed I16 = true
is_signed I32 = true
is_signed I64 = true

-- the unsigned type of the same width
abbrev pub unsigned_of : PType → PType
unsigned_of U8 = U8
unsigned_of U16 = U16
unsigned_of U32 = U32
unsigned_of U64 = U64
unsigned_of I8 = U8
unsigned_of I16 = U16
unsigned_of I32 = U32
unsigned_of I64 = U64

-- the signed type of the same width
abbrev pub signed_of : PType → PType
signed_of U8 = I8
signed_of U16 = I16
signed_of U32 = I32
signed_of U64 = I64
signed_of I8 = I8
signed_of I16 = I16
signed_of I32 = I32
signed_of I64 = I64

-- the bits of the greatest value: the width, less the sign bit of a signed type
abbrev pub natural_bits : PType → ℕ
natural_bits U8 = 8
natural_bits U16 = 16
natural_bits U32 = 32
natural_bits U64 = 64
natural_bits I8 = 7
natural_bits I16 = 15
natural_bits I32 = 31
natural_bits I64 = 63

-- whether a whole number is in the range of the type; negsuc n is -1 - n
abbrev pub lies_in : PType → ℤ → Bool
lies_in p (pos n) = nat_lt n (2 ^ natural_bits p)
lies_in p (negsuc n) = is_signed p && nat_lt n (2 ^ natural_bits p)

-- the least value with n bits besides the sign: -2^n if signed, 0 if not
abbrev pub least_where : Bool → ℕ → ℤ
least_where true n = negsuc (2 ^ n - 1)
least_where false n = pos 0

-- the least value of a type
abbrev pub least : PType → ℤ
least p = least_where (is_signed p) (natural_bits p)

-- the greatest value of a type
abbrev pub greatest : PType → ℤ
greatest p = pos (2 ^ natural_bits p - 1)

-- the two's complement of a value of the type, as a natural number
abbrev pub bits_in : PType → ℤ → ℕ
bits_in p (pos n) = n
bits_in p (negsuc n) = 2 ^ bits_of p - 1 - n
