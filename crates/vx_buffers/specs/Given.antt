-- The plain columns that a caller's buffers spell, or why they spell none.
use Rattle.std.specs.Prelude.{ℕ, ◌+◌, ◌-◌, ◌*◌, ◌/◌, ◌%◌, ◌^◌, ℤ, pos, Bool, not, ◌==◌, nat_le, List, length, map, slice_index_or, if◌then◌else◌, Option, Some, None, Result, Ok, Err}
use Rattle.std.specs.Str.{is_utf8}
use Rattle.vx_base.specs.declared.dtype.Nullability.{Nullability}
use Rattle.vx_base.specs.declared.dtype.Nullability.TheVariants.{NonNullable, Nullable}
use Rattle.vx_base.specs.declared.ptype.PType.{PType}
use Rattle.vx_base.specs.declared.ptype.PType.TheVariants.{U64, I64}
use Rattle.vx_base.specs.PlainType.{PlainType, utf8, binary}
use Rattle.vx_base.specs.Timestamps.{PlainTimestamp, kind, divides, unit_at}
use Rattle.vx_model.specs.Refusals.{kept, timestamp_refusal, var_bin_refusal}
use Rattle.vx_model.specs.Rows.{below}
use Rattle.vx_model.specs.Tree.{Tree, Validity, bool, primitive, timestamp, var_bin}
use Rattle.vx_buffers.specs.declared.refusal.Refusal.{Refusal}
use Rattle.vx_buffers.specs.declared.refusal.Refusal.TheVariants.{UnknownForm, ValidityLength, BadOffsets, NotUtf8, BadUnit}
use Rattle.vx_buffers.specs.Answered.{followed_by, unless_refused}

-- ---- validity

-- a byte as a truth value: false of 0 alone
abbrev pub is_set : ℕ → Bool
is_set byte = not (byte == 0)

-- the bit at a place of a bitmap, the lowest of each byte first
abbrev pub bit_at : List ℕ → ℕ → Bool
bit_at bytes place = (slice_index_or bytes (place / 8) 0 / 2 ^ (place % 8)) % 2 == 1

-- the bits from an offset on, one for each of `rows` rows
abbrev pub bits_from : List ℕ → ℕ → ℕ → List Bool
bits_from bytes offset rows = below (λ row. bit_at bytes (offset + row)) rows

-- whether a bitmap has them all
abbrev pub has_bits : List ℕ → ℕ → ℕ → Bool
has_bits bytes offset rows = nat_le (offset + rows) (8 * length bytes)

-- validity, and whether a row may be null
abbrev pub Judged : Type 0
Judged = Result (Validity × Nullability) Refusal

-- by a byte a row
abbrev pub by_bytes : List ℕ → ℕ → Judged
by_bytes bytes rows = if length bytes == rows then Ok (Some (map is_set bytes), Nullable) else Err ValidityLength

-- by a bitmap
abbrev pub by_bits : List ℕ → ℕ → ℕ → Judged
by_bits bytes offset rows = if has_bits bytes offset rows then Ok (Some (bits_from bytes offset rows), Nullable) else Err ValidityLength

-- by its form: 0 none, so that no row may be null; 1 a byte a row; 2 a bitmap from an offset on
abbrev pub given_validity : ℕ → List ℕ → ℕ → ℕ → Judged
given_validity form bytes offset rows =
    if form == 0 then Ok (None, NonNullable) else (if form == 1 then by_bytes bytes rows else (if form == 2 then by_bits bytes offset rows else Err UnknownForm))

-- ---- columns

-- integers of a type
abbrev pub given_integers : PType → List ℤ → ℕ → List ℕ → ℕ → Result Tree Refusal
given_integers p values form valid offset =
    followed_by (given_validity form valid offset (length values)) (λ v. Ok (primitive p values (kept v.0) v.1))

-- truth values, a byte each
abbrev pub given_truths : List ℕ → ℕ → List ℕ → ℕ → Result Tree Refusal
given_truths values form valid offset =
    followed_by (given_validity form valid offset (length values)) (λ v. Ok (bool (map is_set values) (kept v.0) v.1))

-- the type of texts or of binaries
abbrev pub bytes_type : Bool → Nullability → PlainType
bytes_type is_text n = if is_text then utf8 n else binary n

-- offsets as a column
abbrev pub offsets_tree : List ℕ → Tree
offsets_tree offsets = primitive U64 (map pos offsets) None NonNullable

-- texts or binaries by a column of offsets: the refusals are those of the node, in its order
abbrev pub joined_at : Tree → List ℕ → Validity → PlainType → Result Tree Refusal
joined_at starts bytes valid t = unless_refused (var_bin_refusal starts bytes valid t) (var_bin starts bytes (kept valid) t)

-- texts or binaries by offsets
abbrev pub joined : Bool → List ℕ → List ℕ → Validity → Nullability → Result Tree Refusal
joined is_text offsets bytes valid n = joined_at (offsets_tree offsets) bytes valid (bytes_type is_text n)

-- the same with validity as it is given; there is an offset more than there are rows
abbrev pub given_bytes : Bool → List ℕ → List ℕ → ℕ → List ℕ → ℕ → Result Tree Refusal
given_bytes is_text offsets bytes form valid offset =
    if length offsets == 0 then Err BadOffsets else followed_by (given_validity form valid offset (length offsets - 1)) (λ v. joined is_text offsets bytes v.0 v.1)

-- a zone's name, none where the flag is 0
abbrev pub given_zone : ℕ → List ℕ → Result (Option (List ℕ)) Refusal
given_zone has_zone name = if has_zone == 0 then Ok None else (if is_utf8 name then Ok (Some name) else Err NotUtf8)

-- a unit, by its number, and a zone
abbrev pub given_kind : ℕ → ℕ → List ℕ → Result PlainTimestamp Refusal
given_kind unit has_zone name =
    followed_by (given_zone has_zone name) (λ zone. if divides (unit_at unit) then Ok (kind (unit_at unit) zone) else Err BadUnit)

-- integers as timestamps of a kind
abbrev pub stamped : Tree → PlainTimestamp → Result Tree Refusal
stamped integers k = unless_refused (timestamp_refusal integers) (timestamp integers k)

-- timestamps
abbrev pub given_timestamps : List ℤ → ℕ → List ℕ → ℕ → ℕ → ℕ → List ℕ → Result Tree Refusal
given_timestamps values form valid offset unit has_zone name =
    followed_by (given_kind unit has_zone name) (λ k. followed_by (given_integers I64 values form valid offset) (λ integers. stamped integers k))
