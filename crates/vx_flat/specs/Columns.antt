-- The columns nested in a column of structs, one for each field.
use Rattle.std.specs.Prelude.{ℕ, zero, suc, List, [], ◌∷◌, ◌++◌, map}
use Rattle.vx_base.specs.PlainValue.{PlainValue, PlainValues}
use Rattle.vx_model.specs.Nested.{first_within, rest_within}

-- the first n values of each row, a column for each place, null where a row has fewer
abbrev pub columns_of : ℕ → List PlainValues → List (List PlainValue)
columns_of zero rows = []
columns_of (suc n) rows = map first_within rows ∷ columns_of n (map rest_within rows)

-- the columns with one row more, which gives each its next value
abbrev pub with_row : List (List PlainValue) → PlainValues → List (List PlainValue)
with_row [] row = []
with_row (c ∷ cs) row = (c ++ first_within row ∷ []) ∷ with_row cs (rest_within row)
