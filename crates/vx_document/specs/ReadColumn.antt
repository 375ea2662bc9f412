-- The column of a document, as its reader holds it.
use Rattle.std.specs.Prelude.{List, map, refl}
use Rattle.std.specs.Coded.{Coded, code_by, coded×}
use Rattle.vx_base.specs.PlainType.{PlainType, stored_type}
use Rattle.vx_base.specs.PlainValue.{PlainValue, values_code}
use Rattle.vx_base.specs.Storable.{code_of}
use Rattle.vx_base.specs.TypeOf.{type_of, value_of}
use Rattle.vx_model.specs.Column.{Column, IsColumn, column, column_of}
use Rattle.vx_model.specs.Plain.{IsPlain}
use Rattle.vx_document.specs.declared.document.column.ReadRows.{ReadRows}
use Rattle.vx_document.specs.declared.document.column.ReadRows.TheVariants.{Plain, Values}

-- the column as plain data
abbrev pub column_read : ReadRows → Column
column_read (Plain tree) = column_of tree
column_read (Values t vs) = column (type_of t) (map value_of vs.items)

-- a tree that is held is plain, and values that are held fit their type
abbrev pub IsHeld : ReadRows → Type 0
IsHeld (Plain tree) = IsPlain tree
IsHeld (Values t vs) = IsColumn (column_read (Values t vs))

-- from this code equality of columns is decided
abbrev pub column_code : Coded Column
column_code = code_by (PlainType × List PlainValue) (coded× (code_of stored_type) values_code) (λ c. (c.dtype, c.values)) (λ p. column p.0 p.1) (λ c. refl)
