-- How the small fields of a file are spelled: truth values, integers, names, nullability, kinds of timestamps and validity.
use Rattle.std.specs.Prelude.{FitsSigned, ℕ, ◌∷◌, [], ◌^◌, ℤ, Bool, true, false, not, IsTrue, List, Option, Some, None, ◌==◌, cond, nat_le, nat_lt}
use Rattle.std.specs.Int.{w128, cast_unsigned, cast_signed}
use Rattle.std.specs.List.{list_all}
use Rattle.std.specs.Str.{is_utf8}
use Rattle.vx_base.specs.declared.dtype.Nullability.{Nullability}
use Rattle.vx_base.specs.declared.dtype.Nullability.TheVariants.{NonNullable, Nullable}
use Rattle.vx_base.specs.declared.ptype.PType.{PType}
use Rattle.vx_base.specs.declared.ptype.PType.TheVariants as ptypes
use Rattle.vx_base.specs.declared.timestamp.TimeUnit.{TimeUnit}
use Rattle.vx_base.specs.declared.timestamp.TimeUnit.TheVariants.{Nanoseconds, Microseconds, Milliseconds, Seconds}
use Rattle.vx_base.specs.Integers.{bytes_of, bits_in, lies_in}
use Rattle.vx_base.specs.PlainType.{nullability_number, ptype_number}
use Rattle.vx_base.specs.Timestamps.{PlainTimestamp, kind, unit_number, divides}
use Rattle.vx_base.specs.Wrapping.{from_bits}
use Rattle.vx_codec.specs.Bits.{bits}
use Rattle.vx_codec.specs.FixedWidth.{byte_at, fixed_width, little_endian, raw, enumerated}
use Rattle.vx_codec.specs.Format.{Format, both, tested, made_at, mapped_at}
use Rattle.vx_codec.specs.Lists.{delimited, optional}
use Rattle.vx_codec.specs.Varint.{varint}
use Rattle.vx_model.specs.Tree.{Validity}

-- the byte of a truth value: 1 for true
abbrev pub truth_number : Bool → ℕ
truth_number b = cond b 1 0

-- the truth value of a byte; None from 2 on
abbrev pub truth_from : ℕ → Option Bool
truth_from n = cond (n == 0) (Some false) (cond (n == 1) (Some true) None)

-- a truth value: a byte 0 or 1
abbrev pub truth_value : Format Bool
truth_value = enumerated truth_number truth_from

-- the nullability of a byte; None from 2 on
abbrev pub nullability_from : ℕ → Option Nullability
nullability_from n = cond (n == 0) (Some NonNullable) (cond (n == 1) (Some Nullable) None)

-- a byte 0, or 1 where null is allowed
abbrev pub nullability : Format Nullability
nullability = enumerated nullability_number nullability_from

-- the integer type of a byte; None from 8 on
abbrev pub ptype_from : ℕ → Option PType
ptype_from n =
    cond (n == 0) (Some ptypes.U8) (cond (n == 1) (Some ptypes.U16) (cond (n == 2) (Some ptypes.U32) (cond (n == 3) (Some ptypes.U64)
    (cond (n == 4) (Some ptypes.I8) (cond (n == 5) (Some ptypes.I16) (cond (n == 6) (Some ptypes.I32) (cond (n == 7) (Some ptypes.I64) None)))))))

-- an integer type, by a byte from 0 to 7
abbrev pub ptype : Format PType
ptype = enumerated ptype_number ptype_from

-- an integer of a type in the type's width: its two's complement, little-endian
abbrev pub integer : PType → Format ℤ
integer p = record {
  spell = λ z. little_endian (bytes_of p) (bits_in p z);
  parse = made_at (from_bits p) (fixed_width (bytes_of p)).parse;
  Fits = λ z. IsTrue (lies_in p z);
}

-- a whole number of 128 signed bits in 16 bytes: its two's complement, little-endian
abbrev pub wide_integer : Format ℤ
wide_integer = record {
  spell = λ z. little_endian 16 (cast_unsigned w128 z);
  parse = made_at (cast_signed w128) (fixed_width 16).parse;
  Fits = FitsSigned w128;
}

-- the name of a field or of a time zone: UTF-8, as every `Text` is
abbrev pub name : Format (List ℕ)
name = tested is_utf8 delimited

-- the unit of a byte; None from 4 on
abbrev pub unit_from : ℕ → Option TimeUnit
unit_from n =
    cond (n == 0) (Some Nanoseconds) (cond (n == 1) (Some Microseconds) (cond (n == 2) (Some Milliseconds) (cond (n == 3) (Some Seconds) None)))

-- a unit of timestamps, by a byte from 0 to 3; days have none
abbrev pub unit : Format TimeUnit
unit = record { spell = λ u. unit_number u ∷ []; parse = mapped_at unit_from byte_at; Fits = λ u. IsTrue (divides u) }

-- layout of a kind of timestamps: the unit, and a flag with the zone's name behind it where there is one
abbrev pub kind_parts : Format (TimeUnit × Option (List ℕ))
kind_parts = both unit (optional name)

-- the kind of timestamps with a unit and a zone
abbrev pub kind_of : TimeUnit × Option (List ℕ) → PlainTimestamp
kind_of p = kind p.0 p.1

-- a kind of timestamps: its unit, and the name of its zone if it has one
abbrev pub timestamp_kind : Format PlainTimestamp
timestamp_kind = record {
  spell = λ k. kind_parts.spell (k.unit, k.zone);
  parse = made_at kind_of kind_parts.parse;
  Fits = λ k. kind_parts.Fits (k.unit, k.zone);
}

-- the row limit of a node, 2^31 + 5,121: no compression makes more, and checking a node's rows is bounded whatever row count a
-- file names
abbrev pub most_rows : ℕ
most_rows = 2_147_488_769

-- whether a number of rows is within the limit
abbrev pub are_few : ℕ → Bool
are_few rows = nat_le rows most_rows

-- the number of rows of a node that names it
abbrev pub row_count : Format ℕ
row_count = tested are_few varint

-- whether a list size is below 2^32
abbrev pub is_size : ℕ → Bool
is_size n = nat_lt n (2 ^ 32)

-- the size of lists of one size, below 2^32 as in every type
abbrev pub list_size : Format ℕ
list_size = tested is_size varint

-- whether a bit is false, that is, a row is null
abbrev pub has_false : List Bool → Bool
has_false bs = not (list_all (λ bit. bit) bs)

-- validity in its one form: 0 where every row is valid, else 1 and a bit a row, at least one of them false
abbrev pub validity : ℕ → Format Validity
validity len = optional (tested has_false (bits len))

-- whether every number is a byte, that is, below 256
abbrev pub are_bytes : List ℕ → Bool
are_bytes bs = list_all (λ byte. nat_lt byte 256) bs

-- a given number of bytes of packed rows
abbrev pub packed_bytes : ℕ → Format (List ℕ)
packed_bytes count = tested are_bytes (raw count)

-- bytes of packed rows behind their number
abbrev pub counted_bytes : Format (List ℕ)
counted_bytes = tested are_bytes delimited
