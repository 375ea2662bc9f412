-- What a caller reads of a tree: its rows with the default beneath nulls, which of them are there, and why buffers are refused.
use Rattle.std.specs.Prelude.{◌≡◌, ℕ, ◌+◌, ℤ, Bool, true, false, ◌==◌, nat_le, List, length, map, replicate, if◌then◌else◌, Some, None, Result, Ok, Err}
use Rattle.vx_base.specs.declared.ptype.PType.{PType}
use Rattle.vx_base.specs.declared.ptype.PType.TheVariants.{I64}
use Rattle.vx_base.specs.PlainType.{PlainType, boolean, is_bytes, is_timestamp, nullability_of, same_type}
use Rattle.vx_base.specs.PlainType as types
use Rattle.vx_base.specs.PlainValue.{bytes_or_empty, truth_or_false, whole_or_zero}
use Rattle.vx_model.specs.Nested.{concatenated}
use Rattle.vx_model.specs.Plain.{validity}
use Rattle.vx_model.specs.Refusals.{validity_length}
use Rattle.vx_model.specs.Rows.{rows}
use Rattle.vx_model.specs.Tree.{Tree, Validity}
use Rattle.vx_model.specs.TreeType.{tree_type}
use Rattle.vx_values.specs.IntsOf.{ptype_of, wholes_of}
use Rattle.vx_values.specs.declared.ints.Ints.{Ints}
use Rattle.vx_buffers.specs.declared.refusal.Refusal.{Refusal}
use Rattle.vx_buffers.specs.declared.refusal.Refusal.TheVariants.{OtherType, BufferLength}

-- whether a type is that of integers of this kind, nullable or not
abbrev pub is_of : PType → PlainType → Bool
is_of p t = same_type t (types.primitive p (nullability_of t))

-- whether a type is that of truth values, nullable or not
abbrev pub is_bool : PlainType → Bool
is_bool (boolean n) = true
is_bool _ = false

-- validity as a truth value for each of `len` rows
abbrev pub shown : Validity → ℕ → List Bool
shown None len = replicate len true
shown (Some bits) len = bits

-- which rows of a tree are there
abbrev pub shown_of : Tree → List Bool
shown_of t = shown (validity (rows t)) (length (rows t))

-- the rows of integers or timestamps, 0 beneath nulls
abbrev pub integers_of : Tree → List ℤ
integers_of t = map whole_or_zero (rows t)

-- the rows of truth values, false beneath nulls
abbrev pub truths_of : Tree → List Bool
truths_of t = map truth_or_false (rows t)

-- the rows of texts or binaries as bytes, none beneath nulls
abbrev pub texts_of : Tree → List (List ℕ)
texts_of t = map bytes_or_empty (rows t)

-- what decoding `len` rows of a type into two buffers of these lengths answers
abbrev pub into_buffers : Bool → ℕ → ℕ → ℕ → Result (Unit {0}) Refusal
into_buffers is_type len out valid =
    if is_type then (if out == len then (if valid == len then Ok tt else Err BufferLength) else Err BufferLength) else Err OtherType

-- what writing `len` bytes into a place of `place` bytes answers
abbrev pub into_place : ℕ → ℕ → Result (Unit {0}) Refusal
into_place len place = if nat_le len place then Ok tt else Err BufferLength

-- the number of bytes of texts or binaries
abbrev pub counted : Tree → Result ℕ Refusal
counted t = if is_bytes (tree_type t) then Ok (length (concatenated (texts_of t))) else Err OtherType

-- whether three buffers have the lengths that `count` rows of `all` bytes need: an offset more than rows, the bytes, and a truth value
-- a row
abbrev pub bytes_fit : ℕ → ℕ → ℕ → ℕ → ℕ → Result (Unit {0}) Refusal
bytes_fit count all offsets bytes valid =
    if offsets == count + 1 then (if bytes == all then (if valid == count then Ok tt else Err BufferLength) else Err BufferLength) else Err BufferLength

-- what decoding texts or binaries into buffers of these lengths answers
abbrev pub bytes_into : Tree → ℕ → ℕ → ℕ → Result (Unit {0}) Refusal
bytes_into t offsets bytes valid =
    if is_bytes (tree_type t) then bytes_fit (length (rows t)) (length (concatenated (texts_of t))) offsets bytes valid else Err OtherType

-- integers and validity are those of a plain tree of this type of integers
pub record HasIntegers (p : PType) (t : Tree) (ints : Ints) (mask : Validity) : Type 0 where
  pub is : is_of p (tree_type t) ≡ true
  pub kind : ptype_of ints ≡ p
  pub wholes : wholes_of ints ≡ integers_of t
  pub valid : mask ≡ validity (rows t)
  pub count : length (wholes_of ints) ≡ length (rows t)
  pub fits : validity_length mask (length (rows t)) ≡ true

-- of timestamps
pub record HasStamps (t : Tree) (ints : Ints) (mask : Validity) : Type 0 where
  pub is : is_timestamp (tree_type t) ≡ true
  pub kind : ptype_of ints ≡ I64
  pub wholes : wholes_of ints ≡ integers_of t
  pub valid : mask ≡ validity (rows t)
  pub count : length (wholes_of ints) ≡ length (rows t)
  pub fits : validity_length mask (length (rows t)) ≡ true

-- truth values and validity are those of a plain tree
pub record HasTruths (t : Tree) (bits : List Bool) (mask : Validity) : Type 0 where
  pub is : is_bool (tree_type t) ≡ true
  pub truths : bits ≡ truths_of t
  pub valid : mask ≡ validity (rows t)
  pub count : length bits ≡ length (rows t)
  pub fits : validity_length mask (length (rows t)) ≡ true

-- texts or binaries and validity are those of a plain tree
pub record HasTexts (t : Tree) (texts : List (List ℕ)) (mask : Validity) : Type 0 where
  pub is : is_bytes (tree_type t) ≡ true
  pub items : texts ≡ texts_of t
  pub valid : mask ≡ validity (rows t)
  pub count : length texts ≡ length (rows t)
  pub fits : validity_length mask (length (rows t)) ≡ true
