-- A row that isn't null, by the variant that the type is.
use Rattle.std.proofs.Common.{◌≡◌, ℕ, false, None, Box, Global, ap, ◌∙◌, rules}
use Rattle.std.specs.Prelude.{is_some}
use Rattle.serde_json.specs.Data.{Data}
use Rattle.serde_json.specs.Find.{as_null}
use Rattle.vx_base.specs.declared.dtype.DType.{DType, the_lemmas}
use Rattle.vx_base.specs.declared.dtype.DType as variants
use Rattle.vx_base.specs.declared.dtype.Fields.{Fields}
use Rattle.vx_base.specs.declared.dtype.Nullability.{Nullability}
use Rattle.vx_base.specs.declared.dtype.Nullability.TheVariants.{NonNullable}
use Rattle.vx_base.specs.declared.ptype.PType.{PType}
use Rattle.vx_base.specs.declared.ptype.PType.TheVariants.{I64}
use Rattle.vx_base.specs.PlainType.{PlainType, null_type, boolean, primitive, utf8, binary, timestamp, list}
use Rattle.vx_base.specs.Timestamps.{PlainTimestamp}
use Rattle.vx_base.specs.TypeOf.{type_of, fields_of}
use Rattle.vx_base.proofs.FieldLemmas.{type_of-Struct, type_of-FixedSizeList, type_of-Utf8}
use Rattle.vx_document.specs.RowsOf.{row_of, struct_row, list_row, fixed_list_row}
use Rattle.vx_document.proofs.DocumentCells.{row-null_type, row-boolean, row-primitive, row-utf8, row-binary, row-timestamp, row-structure, row-list, row-fixed_list}

-- ---- the plain data of a variant

type_of-Null : type_of variants.Null ≡ null_type
type_of-Null = search (rules, the_lemmas)

type_of-Bool : (n : Nullability) → type_of (variants.Bool n) ≡ boolean n
type_of-Bool n = search (rules, the_lemmas)

type_of-Primitive : (p : PType) (n : Nullability) → type_of (variants.Primitive p n) ≡ primitive p n
type_of-Primitive p n = search (rules, the_lemmas)

type_of-Binary : (n : Nullability) → type_of (variants.Binary n) ≡ binary n
type_of-Binary n = search (rules, the_lemmas)

type_of-Timestamp : (k : PlainTimestamp) (n : Nullability) → type_of (variants.Timestamp k n) ≡ timestamp k n
type_of-Timestamp k n = search (rules, the_lemmas)

type_of-List : (t : Box DType Global) (n : Nullability) → type_of (variants.List t n) ≡ list (type_of t.value) n
type_of-List t n = search (rules, the_lemmas)

-- ---- a row

module _ (dtype : DType) (d : Data) (some : is_some (as_null d) ≡ false) where
  by_type : (t : PlainType) → type_of dtype ≡ t → row_of (type_of dtype) d ≡ row_of t d
  by_type t e = ap (λ u. row_of u d) e

  pub row-Null : dtype ≡ variants.Null → row_of (type_of dtype) d ≡ None
  row-Null e = by_type null_type (ap type_of e ∙ type_of-Null) ∙ row-null_type d some

  pub row-Bool : (n : Nullability) → dtype ≡ variants.Bool n → row_of (type_of dtype) d ≡ row_of (boolean NonNullable) d
  row-Bool n e = by_type (boolean n) (ap type_of e ∙ type_of-Bool n) ∙ row-boolean d some n

  pub row-Primitive : (p : PType) (n : Nullability) → dtype ≡ variants.Primitive p n → row_of (type_of dtype) d ≡ row_of (primitive p NonNullable) d
  row-Primitive p n e = by_type (primitive p n) (ap type_of e ∙ type_of-Primitive p n) ∙ row-primitive d some p n

  pub row-Utf8 : (n : Nullability) → dtype ≡ variants.Utf8 n → row_of (type_of dtype) d ≡ row_of (utf8 NonNullable) d
  row-Utf8 n e = by_type (utf8 n) (ap type_of e ∙ type_of-Utf8 n) ∙ row-utf8 d some n

  pub row-Binary : (n : Nullability) → dtype ≡ variants.Binary n → row_of (type_of dtype) d ≡ row_of (binary NonNullable) d
  row-Binary n e = by_type (binary n) (ap type_of e ∙ type_of-Binary n) ∙ row-binary d some n

  pub row-Timestamp : (k : PlainTimestamp) (n : Nullability) → dtype ≡ variants.Timestamp k n → row_of (type_of dtype) d ≡ row_of (primitive I64 NonNullable) d
  row-Timestamp k n e = by_type (timestamp k n) (ap type_of e ∙ type_of-Timestamp k n) ∙ row-timestamp d some k n

  pub row-Struct : (fs : Fields) (n : Nullability) → dtype ≡ variants.Struct fs n → row_of (type_of dtype) d ≡ struct_row (fields_of fs) d
  row-Struct fs n e = by_type _ (ap type_of e ∙ type_of-Struct fs n) ∙ row-structure d some (fields_of fs) n

  pub row-List : (t : Box DType Global) (n : Nullability) → dtype ≡ variants.List t n → row_of (type_of dtype) d ≡ list_row (type_of t.value) d
  row-List t n e = by_type _ (ap type_of e ∙ type_of-List t n) ∙ row-list d some (type_of t.value) n

  pub row-FixedSizeList : (t : Box DType Global) (size : ℕ) (n : Nullability) → dtype ≡ variants.FixedSizeList t size n → row_of (type_of dtype) d ≡ fixed_list_row (type_of t.value) size d
  row-FixedSizeList t size n e = by_type _ (ap type_of e ∙ type_of-FixedSizeList t size n) ∙ row-fixed_list d some (type_of t.value) size n
