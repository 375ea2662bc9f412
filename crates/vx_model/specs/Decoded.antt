-- Decoded rows: items with the default beneath nulls, as in a plain tree, and items picked by codes.
use Rattle.std.specs.Prelude.{ℕ, ℤ, pos, Bool, true, false, slice_index_or, length, ◌&&◌, ◌||◌, ◌==◌, List, [], ◌∷◌, None, Some, cond}
use Rattle.std.specs.Ordering.{int_eq}
use Rattle.vx_base.specs.declared.ptype.PType.{PType}
use Rattle.vx_base.specs.Integers.{bits_in}
use Rattle.vx_model.specs.Tree.{Validity}
use Rattle.vx_model.specs.Rows.{is_valid_at}

-- the default where the mask is false; items past its end stay
abbrev pub zeroed : {A : Type 0} → A → List Bool → List A → List A
zeroed default [] xs = xs
zeroed default (bit ∷ bits) [] = []
zeroed default (bit ∷ bits) (x ∷ xs) = cond bit x default ∷ zeroed default bits xs

-- the default where the row is null
abbrev pub zeroed_by : {A : Type 0} → A → Validity → List A → List A
zeroed_by default None xs = xs
zeroed_by default (Some bits) xs = zeroed default bits xs

-- whether each item is the default where the mask is false, by a test for the default
abbrev pub zero_beneath : {A : Type 0} → (A → Bool) → List Bool → List A → Bool
zero_beneath is_default [] xs = true
zero_beneath is_default (bit ∷ bits) [] = true
zero_beneath is_default (bit ∷ bits) (x ∷ xs) = (bit || is_default x) && zero_beneath is_default bits xs

-- whether each item is the default where the row is null
abbrev pub zero_beneath_by : {A : Type 0} → (A → Bool) → Validity → List A → Bool
zero_beneath_by is_default None xs = true
zero_beneath_by is_default (Some bits) xs = zero_beneath is_default bits xs

-- the test for 0
abbrev pub is_zero : ℤ → Bool
is_zero z = int_eq z (pos 0)

-- the test for no bytes
abbrev pub is_empty : List ℕ → Bool
is_empty bs = length bs == 0

-- the item at the index that a code's bits are; the other item out of bounds
abbrev pub picked : {A : Type 0} → PType → List A → A → ℤ → A
picked p items other code = slice_index_or items (bits_in p code) other

-- whether a row's code is valid and picks a valid value
abbrev pub picks_valid : PType → List Bool → Validity → List ℤ → ℕ → Bool
picks_valid p value_bits valid codes i = is_valid_at valid i && picked p value_bits false (slice_index_or codes i (pos 0))
