-- What a dictionary makes of a column of texts or binaries: its distinct values by first appearance, and for each row the place of its value.
use Rattle.std.specs.Prelude.{pos, not, List, [], ◌∷◌, length, map, filter}
use Rattle.std.specs.List.{position_or_len}
use Rattle.vx_base.specs.PlainType.{nullability_of}
use Rattle.vx_base.specs.PlainType as types
use Rattle.vx_base.specs.PlainValue.{PlainValue, null, int, is_null, same_value}
use Rattle.vx_model.specs.Column.{Column, column}
use Rattle.vx_schemes_common.specs.Dictionaries.{code_type}

-- the distinct values of a list, in the order in which they first appear
abbrev pub by_appearance : List PlainValue → List PlainValue
by_appearance [] = []
by_appearance (v ∷ vs) = v ∷ filter (λ w. not (same_value v w)) (by_appearance vs)

-- the distinct values of rows, without null
abbrev pub appearing : List PlainValue → List PlainValue
appearing values = by_appearance (filter (λ v. not (is_null v)) values)

-- the code of a row: the place of its value among the distinct ones, from 0; null stays
abbrev pub code_in : List PlainValue → PlainValue → PlainValue
code_in distinct null = null
code_in distinct v = int (pos (position_or_len (same_value v) distinct))

-- the distinct values, of the column's type
abbrev pub dictionary_values : Column → Column
dictionary_values c = column c.dtype (appearing c.values)

-- the codes of the rows, as nullable as the column
abbrev pub dictionary_codes : Column → Column
dictionary_codes c = column (types.primitive (code_type (length (appearing c.values))) (nullability_of c.dtype)) (map (code_in (appearing c.values)) c.values)
