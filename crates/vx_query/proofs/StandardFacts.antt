-- Worked lines, written by hand, so that a wrong rule in the definitions does not check.
use Rattle.std.proofs.Common.{◌≡◌, [], ◌∷◌, true, false, Some, None, Ok, Err, codes, refl}
use Rattle.serde_json.specs.Data.{Data, unsigned, number, string}
use Rattle.serde_json.specs.Data as json
use Rattle.vx_base.specs.declared.dtype.Nullability.TheVariants.{NonNullable, Nullable}
use Rattle.vx_base.specs.declared.error.VortexError.TheVariants.{MismatchedTypes, OutOfBounds}
use Rattle.vx_base.specs.declared.ptype.PType.TheVariants.{U8, I32}
use Rattle.vx_base.specs.PlainType as types
use Rattle.vx_base.specs.PlainValue.{PlainValue, null, int, bytes}
use Rattle.std.specs.Fmt.{digits}
use Rattle.std.specs.Prelude.{ℕ, pos}
use Rattle.std.specs.Str.{is_utf8, chars}
use Rattle.vx_model.specs.Column.{Column, column}
use Rattle.vx_document.specs.Commands.{slice, take, fill_null, compare, like, not, min_max, null_count, sum, row, rows}
use Rattle.vx_document.specs.RowsOf.{row_of}
use Rattle.vx_rules.specs.declared.options.CompareOperator.TheVariants.{Gte}
use Rattle.vx_query.specs.Queries.{query_lines}

abbrev whole : ℕ → PlainValue
whole n = int (pos n)

abbrev number_of : ℕ → Data
number_of n = number (unsigned n)

-- 3, 1, 2 as u8
abbrev three : Column
three = column (types.primitive U8 NonNullable) (whole 3 ∷ whole 1 ∷ whole 2 ∷ [])

-- 5, null, 7 as i32?
abbrev some_null : Column
some_null = column (types.primitive I32 Nullable) (whole 5 ∷ null ∷ whole 7 ∷ [])

-- three queries about an operation in their midst
pub three_lines : query_lines three (compare Gte (number_of 2) ∷ sum ∷ slice 1 3 ∷ rows ∷ []) ≡ Ok (codes "[true,false,true]\n6\n[1,2]\n")
unfolding row_of digits
three_lines = refl

-- no rows 0 to 8
pub out_of_bounds : query_lines three (sum ∷ slice 0 9 ∷ []) ≡ Err OutOfBounds
out_of_bounds = refl

-- a null is counted, then filled
pub filled_lines : query_lines some_null (null_count ∷ fill_null (number_of 0) ∷ sum ∷ min_max ∷ []) ≡ Ok (codes "1\n12\n[0,7]\n")
unfolding row_of digits
filled_lines = refl

-- the first refusal is the answer, whatever was printed before
pub not_of_integers : query_lines some_null (null_count ∷ fill_null (number_of 0) ∷ sum ∷ min_max ∷ not ∷ []) ≡ Err MismatchedTypes
unfolding row_of
not_of_integers = refl

-- a value of another type, one out of range, and a fill that is null
pub other_values :
    (query_lines three (compare Gte (string (codes "2")) ∷ []) ≡ Err MismatchedTypes) × (query_lines three (compare Gte (number_of 256) ∷ []) ≡ Err MismatchedTypes)
    × (query_lines some_null (fill_null json.null ∷ []) ≡ Err MismatchedTypes)
unfolding row_of
other_values = (refl, refl, refl)

-- a comparison with null is null in each row
pub with_null : query_lines three (compare Gte json.null ∷ []) ≡ Ok (codes "[null,null,null]\n")
unfolding row_of
with_null = refl

-- texts by a pattern, and negated
pub patterns :
    query_lines (column (types.utf8 NonNullable) (bytes (codes "ab") ∷ bytes (codes "b") ∷ []))
    (like (string (codes "a%")) (record { negated = false }) ∷ like (string (codes "a%")) (record { negated = true }) ∷ []) ≡ Ok (codes "[true,false]\n[false,true]\n")
unfolding row_of is_utf8 chars lib.Utf8.encode
patterns = refl

-- rows by index, and no least and greatest without a value
pub taken : query_lines three (take (Some 2 ∷ None ∷ []) ∷ rows ∷ row 1 ∷ take (None ∷ []) ∷ min_max ∷ []) ≡ Ok (codes "[2,null]\nnull\nnull\n")
unfolding digits
taken = refl
