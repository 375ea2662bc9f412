-- How a column is written as a document: its type, its rows, and the one sample word 0. Keys stand in one order, `nullable` only
-- where it is true, and there is no white space but the line feed at the end.
use Rattle.std.specs.Prelude.{ℕ, List, [], ◌∷◌, ◌++◌, Bool, nat_le, Option, Some, None, decimal, codes}
use Rattle.std.specs.List.{concat, flat_map, list_all}
use Rattle.json.specs.Print.{quoted}
use Rattle.vx_base.specs.declared.dtype.Nullability.{Nullability}
use Rattle.vx_base.specs.declared.dtype.Nullability.TheVariants.{NonNullable, Nullable}
use Rattle.vx_base.specs.PlainType.{PlainType, PlainFields, null_type, boolean, primitive, utf8, binary, timestamp, structure, list, fixed_size_list, none, more}
use Rattle.vx_base.specs.declared.timestamp.TimeUnit.{TimeUnit}
use Rattle.vx_base.specs.Timestamps.{kind}
use Rattle.vx_base.specs.TypeText.{type_text, unit_text, list_text}
use Rattle.vx_model.specs.Column.{Column, column_of}
use Rattle.vx_model.specs.Extents.{extents}
use Rattle.vx_model.specs.Tree.{Tree}
use Rattle.vx_document.specs.CappedText.{most_bytes}

-- the member that makes an object's type nullable
abbrev pub nullable_member : Nullability → List ℕ
nullable_member NonNullable = []
nullable_member Nullable = codes ",\"nullable\":true"

-- a type by its name, which has no character to escape
abbrev pub named_type : PlainType → List ℕ
named_type t = codes "\"" ++ type_text t ++ codes "\""

-- timestamps of a unit: with a zone an object, without one a name
abbrev pub timestamp_type : TimeUnit → Option (List ℕ) → Nullability → List ℕ
timestamp_type unit None n = named_type (timestamp (kind unit None) n)
timestamp_type unit (Some zone) n = codes "{\"timestamp\":\"" ++ unit_text unit ++ codes "\",\"zone\":" ++ quoted zone ++ nullable_member n ++ codes "}"

-- a type as JSON: its name, where it has one, else an object
abbrev mutual
  pub type_json : PlainType → List ℕ
  type_json null_type = named_type null_type
  type_json (boolean n) = named_type (boolean n)
  type_json (primitive p n) = named_type (primitive p n)
  type_json (utf8 n) = named_type (utf8 n)
  type_json (binary n) = named_type (binary n)
  type_json (timestamp k n) = timestamp_type k.unit k.zone n
  type_json (structure fs n) = codes "{\"struct\":[" ++ fields_json [] fs ++ codes "]" ++ nullable_member n ++ codes "}"
  type_json (list t n) = codes "{\"list\":" ++ type_json t ++ nullable_member n ++ codes "}"
  type_json (fixed_size_list t size n) = codes "{\"fixed\":" ++ type_json t ++ codes ",\"size\":" ++ decimal size ++ nullable_member n ++ codes "}"

  -- a pair of name and type for each field, separated by commas; `before` precedes the first
  pub fields_json : List ℕ → PlainFields → List ℕ
  fields_json before none = []
  fields_json before (more name t fs) = before ++ codes "[" ++ quoted name ++ codes "," ++ type_json t ++ codes "]" ++ fields_json (codes ",") fs

-- a column as a document of one line
unfoldable pub document_text : Column → List ℕ
document_text c = concat (codes "{\"type\":" ∷ type_json c.dtype ∷ codes ",\"rows\":" ∷ list_text c.dtype c.values ∷ codes ",\"words\":[0]}\n" ∷ [])

-- the columns of trees as documents, one after the other
abbrev pub documents_text : List Tree → List ℕ
documents_text trees = flat_map (λ t. document_text (column_of t)) trees

-- whether a number of rows is at most that of the bytes that a text may have
abbrev pub is_few : ℕ → Bool
is_few count = nat_le count most_bytes

-- whether each extent of a tree is few
abbrev pub extents_are_few : Tree → Bool
extents_are_few t = list_all is_few (extents t)
