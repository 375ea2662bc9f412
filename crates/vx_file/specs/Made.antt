-- What a constructor's answer means to the reader that read its parts.
use Rattle.std.specs.Prelude.{ℕ, Bool, List, Option, Some, None, option_map, slice_get, if◌then◌else◌}
use Rattle.vx_base.specs.declared.ptype.PType.TheVariants.{I64}
use Rattle.vx_base.specs.PlainType.{PlainType, null_type, boolean, primitive, utf8, binary, timestamp, structure, list, fixed_size_list}
use Rattle.vx_base.specs.PlainValue.{PlainValue, truth, int, bytes, items}
use Rattle.vx_base.specs.declared.error.VortexError.{VortexError}
use Rattle.vx_base.specs.declared.error.VortexError.TheVariants as errors
use Rattle.vx_codec.specs.Format.{◌>>=◌, Parse, made_at, keyed_at}
use Rattle.vx_codec.specs.Lists.{repeated_at, delimited}
use Rattle.vx_codec.specs.Varint.{varint}
use Rattle.vx_codec.specs.declared.error.ReadError.{ReadError}
use Rattle.vx_codec.specs.declared.error.ReadError.TheVariants.{NoMemory, Malformed}
use Rattle.vx_model.specs.Tree.{PlainPatches}
use Rattle.vx_spelling.specs.Fields.{truth_value, integer}
use Rattle.vx_spelling.specs.PackedParts.{FlatParts, PatchParts}
use Rattle.vx_spelling.specs.ValueSpelling.{fields_at, items_of, nothing_at, value_at}

-- want of memory stays what it is; with any other refusal the parts are no node
abbrev pub error_of : VortexError → ReadError
error_of errors.NoMemory = NoMemory
error_of _ = Malformed

-- parts that pass a test, and the bytes after them
abbrev pub passed : {P : Type 0} → (P → Bool) → P → List ℕ → Option (P × List ℕ)
passed ok parts rest = if ok parts then Some (parts, rest) else None

-- the node of parts that pass a test, and the bytes after them
abbrev pub checked : {P A : Type 0} → (P → Bool) → (P → A) → P → List ℕ → Option (A × List ℕ)
checked ok make parts rest = passed ok parts rest >>= λ x. Some (make x.0, x.1)

-- what stands behind the flag 1 of a value of a type
abbrev pub behind_flag_at : PlainType → Parse PlainValue
behind_flag_at null_type = nothing_at
behind_flag_at (boolean n) = made_at truth truth_value.parse
behind_flag_at (primitive p n) = made_at int (integer p).parse
behind_flag_at (utf8 n) = made_at bytes delimited.parse
behind_flag_at (binary n) = made_at bytes delimited.parse
behind_flag_at (timestamp k n) = made_at int (integer I64).parse
behind_flag_at (structure fs n) = made_at items (fields_at fs)
behind_flag_at (list t n) = made_at items_of (keyed_at varint.parse (repeated_at (value_at t)))
behind_flag_at (fixed_size_list t size n) = made_at items_of (repeated_at (value_at t) size)

-- the type of the field at a place
abbrev pub field_type_at : List (List ℕ × PlainType) → ℕ → Option PlainType
field_type_at fs place = option_map (λ f. f.1) (slice_get fs place)

-- patches without chunk offsets as the parts that are spelled
abbrev pub flat_parts_of : PlainPatches → FlatParts × Unit {0}
flat_parts_of p = (((p.array_len, p.offset), (p.indices, p.values)), tt)

-- patches as the parts that are spelled
abbrev pub patch_parts_of : PlainPatches → PatchParts
patch_parts_of p = (((p.array_len, p.offset), (p.indices, p.values)), p.chunks)
