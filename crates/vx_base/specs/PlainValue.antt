-- Values as plain data.
use Rattle.std.specs.Prelude.{◌≡◌, ℕ, suc, ◌+◌, ◌^◌, nat_lt, ℤ, pos, Bool, true, false, ◌&&◌, List, [], ◌∷◌, length, Option, Some, None, cond, ◌==◌, refl}
use Rattle.std.proofs.Common.{ap}
use Rattle.std.specs.Coded.{Coded, coded_list}
use Rattle.vx_base.specs.Storable.{Storable, code_of, same, first, rest, stored_ℤ, stored_bool, stored_bytes}
use base.Stored.{Gv, gnil, gnum, gcons, num}

mutual
  -- a value of a column: null, a truth value, the whole number that an integer or a timestamp is, the bytes of a text or a
  -- binary, or the values within: one for each field of a struct, or the items of a list
  pub data PlainValue : Type 0 where
    null : PlainValue
    truth : Bool → PlainValue
    int : ℤ → PlainValue
    bytes : List ℕ → PlainValue
    items : PlainValues → PlainValue

  -- the values within a value, in their order
  pub data PlainValues : Type 0 where
    none : PlainValues
    more : PlainValue → PlainValues → PlainValues

-- values in the form that a value holds, from a list
abbrev pub of_list : List PlainValue → PlainValues
of_list [] = none
of_list (v ∷ vs) = more v (of_list vs)

-- the values within a value as a list
abbrev pub list_of : PlainValues → List PlainValue
list_of none = []
list_of (more v vs) = v ∷ list_of vs

-- the items of a list or the field values of a struct, none of any other value
abbrev pub items_or_empty : PlainValue → List PlainValue
items_or_empty (items vs) = list_of vs
items_or_empty _ = []

-- whether the value is null
abbrev pub is_null : PlainValue → Bool
is_null null = true
is_null _ = false

-- whether there are fewer than 2^32 bytes, the limit of a text or a binary
abbrev pub is_short : List ℕ → Bool
is_short bs = nat_lt (length bs) (2 ^ 32)

-- whether each text and binary within, at any depth, has fewer than 2^32 bytes
abbrev mutual
  pub has_short : PlainValue → Bool
  has_short null = true
  has_short (truth b) = true
  has_short (int z) = true
  has_short (bytes bs) = is_short bs
  has_short (items vs) = have_short vs

  pub have_short : PlainValues → Bool
  have_short none = true
  have_short (more v vs) = has_short v && have_short vs

-- `have_short`, over a list
abbrev pub list_has_short : List PlainValue → Bool
list_has_short vs = have_short (of_list vs)

-- the measure by which recursion over values ends: 1, and for each value within its measure and 1 more
abbrev mutual
  pub value_count : PlainValue → ℕ
  value_count null = 1
  value_count (truth b) = 1
  value_count (int z) = 1
  value_count (bytes bs) = 1
  value_count (items vs) = suc (values_count vs)

  pub values_count : PlainValues → ℕ
  values_count none = 0
  values_count (more v vs) = suc (value_count v + values_count vs)

-- an integer, or null in place of None
abbrev pub cell : Option ℤ → PlainValue
cell None = null
cell (Some z) = int z

-- the integer of a value, 0 of any other kind
abbrev pub whole_or_zero : PlainValue → ℤ
whole_or_zero (int z) = z
whole_or_zero _ = pos 0

-- the truth value of a value, false of any other kind
abbrev pub truth_or_false : PlainValue → Bool
truth_or_false (truth b) = b
truth_or_false _ = false

-- the bytes of a value, none of any other kind
abbrev pub bytes_or_empty : PlainValue → List ℕ
bytes_or_empty (bytes bs) = bs
bytes_or_empty _ = []

-- ---- how the logic stores a value: a label, and the values within
abbrev mutual
  pub to : PlainValue → Gv
  to null = gcons (gcons (gnum 0) gnil) gnil
  to (truth b) = gcons (gcons (gnum 1) (stored_bool.to b)) gnil
  to (int z) = gcons (gcons (gnum 2) (stored_ℤ.to z)) gnil
  to (bytes bs) = gcons (gcons (gnum 3) (stored_bytes.to bs)) gnil
  to (items vs) = gcons (gcons (gnum 4) gnil) (to_all vs)

  pub to_all : PlainValues → Gv
  to_all none = gnil
  to_all (more v vs) = gcons (to v) (to_all vs)

-- the value with a number, a label and the values within
abbrev pub value_at : ℕ → Gv → PlainValues → PlainValue
value_at tag label within =
    cond (tag == 0) null (cond (tag == 1) (truth (stored_bool.from label)) (cond (tag == 2) (int (stored_ℤ.from label))
    (cond (tag == 3) (bytes (stored_bytes.from label)) (items within))))

-- a stored tree read as a value, and as values
abbrev pub read : Gv → PlainValue × PlainValues
read gnil = (null, none)
read (gnum n) = (null, none)
read (gcons a b) = (value_at (num (first a)) (rest a) (read b).1, more (read a).0 (read b).1)

abbrev pub from : Gv → PlainValue
from g = (read g).0

mutual
  pub from-to : (v : PlainValue) → from (to v) ≡ v
  from-to null = refl
  from-to (truth b) = ap truth (stored_bool.back b)
  from-to (int z) = ap int (stored_ℤ.back z)
  from-to (bytes bs) = ap bytes (stored_bytes.back bs)
  from-to (items vs) = ap items (from-to_all vs)

  pub from-to_all : (vs : PlainValues) → (read (to_all vs)).1 ≡ vs
  from-to_all none = refl
  from-to_all (more v vs) = λ i. more (from-to v i) (from-to_all vs i)

-- a value is stored as a number for its kind, what it has of its own, and the values within
abbrev pub stored_value : Storable PlainValue
stored_value = record { to = to; from = from; back = from-to }

-- whether two values are equal
abbrev pub same_value : PlainValue → PlainValue → Bool
same_value = same stored_value

-- the code by which the logic decides equality of lists of values
abbrev pub values_code : Coded (List PlainValue)
values_code = coded_list (code_of stored_value)

-- `values_count`, over a list
abbrev pub list_count : List PlainValue → ℕ
list_count vs = values_count (of_list vs)
