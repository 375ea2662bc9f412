-- Messages of three numbers: the metadata of encodings is made of them.
use Rattle.std.specs.Prelude.{ℕ}
use Rattle.vx_codec.specs.Message.{Whole, ended, number_field}

-- the fields of a message of three numbers
abbrev pub Numbers : Type 0
Numbers = ℕ × (ℕ × (ℕ × Unit {0}))

-- three numbers as such fields
abbrev pub three : ℕ → ℕ → ℕ → Numbers
three first second third = (first, (second, (third, tt)))

-- a message of the number fields 1, 2 and 3
abbrev pub numbers : Whole Numbers
numbers = number_field 1 (number_field 2 (number_field 3 ended))
