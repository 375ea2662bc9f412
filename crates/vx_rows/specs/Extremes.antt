-- Least and greatest values, row by row.
use Rattle.std.specs.Prelude.{Bool, cond, if◌then◌else◌, List, [], ◌∷◌, Option, None, Some}
use Rattle.vx_base.specs.PlainValue.{PlainValue, is_null}

-- the items whose bit is true
abbrev pub valid_items : {A : Type 0} → List Bool → List A → List A
valid_items [] xs = []
valid_items (bit ∷ bits) [] = []
valid_items (bit ∷ bits) (x ∷ xs) = cond bit (x ∷ valid_items bits xs) (valid_items bits xs)

-- the first item
abbrev pub first_item : {A : Type 0} → List A → Option A
first_item [] = None
first_item (x ∷ xs) = Some x

-- what f makes of an item and of what was found before, the item alone where nothing was
abbrev pub with_next : {A : Type 0} → (A → A → A) → Option A → A → A
with_next f None x = x
with_next f (Some found) x = f found x

-- what f makes of a value and of what was found before, which null doesn't change
abbrev pub next_valid : (PlainValue → PlainValue → PlainValue) → Option PlainValue → PlainValue → Option PlainValue
next_valid f found v = if is_null v then found else Some (with_next f found v)
