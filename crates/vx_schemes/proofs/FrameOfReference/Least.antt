-- The least value of a column, as its statistics have it.
use Rattle.std.proofs.Common.{◌≡◌, ◌<◌, ℤ, true, List, [], ◌∷◌, length, Some, ap, arith}
use Rattle.std.specs.Prelude.{fold}
use Rattle.std.specs.Int.{int_min}
use Rattle.std.specs.List.{list_all, reduce}
use Rattle.std.proofs.lemmas.Bool.{and_parts}
use Rattle.vx_base.specs.declared.ptype.PType.{PType}
use Rattle.vx_base.specs.Integers.{lies_in, greatest}
use Rattle.vx_base.specs.PlainScalar.{fits}
use Rattle.vx_base.specs.PlainType.{is_integer, integer_of}
use Rattle.vx_base.proofs.IntegerLemmas.{by_integer, integers-lie_in, integers-some}
use Rattle.vx_model.specs.Column.{Column, IsColumn}
use Rattle.vx_stats.specs.Stats.{valid_wholes, value_count, least_in}
use Rattle.vx_stats.proofs.StatsLemmas.{greatest-above}
use Rattle.vx_schemes.specs.FrameOfReference.Tree.{least_value}
use Rattle.vx_scheme.specs.Asked.{HasValue}

wholes-of_type : (c : Column) → is_integer c.dtype ≡ true → IsColumn c → list_all (lies_in (integer_of c.dtype)) (valid_wholes c.values) ≡ true
wholes-of_type c i h =
    by_integer (λ s. list_all (fits s) c.values ≡ true → list_all (lies_in (integer_of s)) (valid_wholes c.values) ≡ true) (λ p n k. integers-lie_in p n c.values k) c.dtype i h

-- statistics begin with the type's greatest, and the least value with the first
from_first : (p : PType) (zs : List ℤ) → list_all (lies_in p) zs ≡ true → 0 < length zs → Some (fold int_min (greatest p) zs) ≡ reduce int_min zs
from_first p [] held some = absurd (omega arith)
from_first p (z ∷ zs) held some = ap (λ low. Some (fold int_min low zs)) (greatest-above p z (and_parts (lies_in p z) (list_all (lies_in p) zs) held).0)

pub least-told : (c : Column) → is_integer c.dtype ≡ true → IsColumn c → 0 < value_count c.values → Some (least_in (integer_of c.dtype) c.values) ≡ least_value c.values
least-told c i h some = from_first (integer_of c.dtype) (valid_wholes c.values) (wholes-of_type c i h) some

-- ---- where not all rows are null there is a value

pub some_values : (c : Column) → is_integer c.dtype ≡ true → IsColumn c → HasValue c → 0 < value_count c.values
some_values c i h some = by_integer (λ s. list_all (fits s) c.values ≡ true → 0 < value_count c.values) (λ p n k. omega (arith, integers-some p n c.values k some)) c.dtype i h
