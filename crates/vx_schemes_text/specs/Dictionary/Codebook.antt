-- A dictionary while it is found: what is known after some of the rows.
use Rattle.std.specs.Prelude.{◌≡◌, ℕ, pos, bytes_eq, nat_lt, IsTrue, if◌then◌else◌, List, length, map, Option, Some, None}
use Rattle.std.specs.HashMap.{get_by}
use Rattle.std.specs.List.{list_all, position_or_len}
use Rattle.vx_base.specs.PlainValue.{PlainValue, bytes, same_value, whole_or_zero}
use Rattle.vx_model.specs.Rows.{row_at}
use Rattle.vx_schemes_text.specs.Dictionary.Distinct.{among}
use Rattle.vx_schemes_text.specs.Dictionary.Tree.{appearing, code_in}
use Rattle.vx_schemes_text.specs.declared.dictionary.codebook.Codebook.{Codebook}
use Rattle.vx_schemes_text.specs.declared.dictionary.codebook.CodedRows.{CodedRows}

-- the codes of values among their distinct ones, 0 in place of null
abbrev pub AreCodesOf : List PlainValue → List ℕ → Type 0
AreCodesOf values found = map pos found ≡ map whole_or_zero (map (code_in (appearing values)) values)

-- the place of a value among others, None where it isn't among them
abbrev pub place_in : List PlainValue → PlainValue → Option ℕ
place_in ds v = if among ds v then Some (position_or_len (same_value v) ds) else None

-- of the values the first ones are seen: the book has the row of each distinct one, and by its bytes its code
pub record Knows (values seen : List PlainValue) (book : Codebook) : Type 0 where
  pub firsts : map (row_at values) book.firsts.items ≡ appearing seen
  pub codes : (bs : List ℕ) → get_by (λ key. bytes_eq bs key.now) book.codes ≡ place_in (appearing seen) (bytes bs)

-- the rows of the first appearances, and the code of each row
pub record AreCoded (values : List PlainValue) (coded : CodedRows) : Type 0 where
  pub within : IsTrue (list_all (λ row. nat_lt row (length values)) coded.firsts)
  pub firsts : map (row_at values) coded.firsts ≡ appearing values
  pub codes : AreCodesOf values coded.codes
