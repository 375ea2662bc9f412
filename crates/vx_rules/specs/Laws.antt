-- Laws of the definitions: what they come to, in other words.
use Rattle.std.specs.Prelude.{◌≡◌, ◌↔◌, ℕ, ◌+◌, Bool, true, ◌&&◌, List, [], ◌∷◌, length, None, Some, IsTrue}
use Rattle.std.specs.List.{AllZip, list_all, list_any}
use Rattle.std.specs.Ordering.{is_le}
use Rattle.vx_base.specs.PlainScalar.{PlainScalar, fits}
use Rattle.vx_base.specs.PlainType.{PlainType, is_flat}
use Rattle.vx_base.specs.PlainValue.{PlainValue, same_value}
use Rattle.vx_model.specs.Column.{Column, IsColumn}
use Rattle.vx_model.specs.Nested.{concatenated}
use Rattle.vx_rules.specs.declared.options.BetweenOptions.{BetweenOptions}
use Rattle.vx_rules.specs.declared.options.CompareOperator.{CompareOperator}
use Rattle.vx_rules.specs.declared.options.LikeOptions.{LikeOptions}
use Rattle.vx_rules.specs.Aggregates.{least, greatest, valid_values}
use Rattle.vx_rules.specs.Comparisons.{comparison, negation, not_refusal}
use Rattle.vx_rules.specs.Comparisons as comparisons
use Rattle.vx_rules.specs.Conversions.{cast_refusal, casted, fill_null_refusal, null_filled}
use Rattle.vx_rules.specs.Patterns.{PatternItem, any_run, any_char, exactly, matches}
use Rattle.vx_rules.specs.Patterns as patterns
use Rattle.vx_rules.specs.Selections.{slice_refusal, sliced, filtered, masked, take_refusal, taken}
use Rattle.vx_rules.specs.ValueOrder.{value_cmp}

-- a slice of a slice, both in bounds, is the slice by summed starts, which is in bounds as well
abbrev pub SlicesCompose : Type 0
SlicesCompose =
    (c : Column) (start end from to : ℕ) → slice_refusal c start end ≡ None → slice_refusal (sliced c start end) from to ≡ None
    → (slice_refusal c (start + from) (start + to) ≡ None) × (sliced (sliced c start end) from to ≡ sliced c (start + from) (start + to))

-- whether an item of a pattern stands for these characters
abbrev pub StandsFor : PatternItem → List ℕ → Type 0
StandsFor any_run cs = Unit {0}
StandsFor any_char cs = length cs ≡ 1
StandsFor (exactly c) cs = cs ≡ c ∷ []

-- characters are cut into one span for each item, in order, and each item stands for its span
pub record IsCutBy (items : List PatternItem) (cs : List ℕ) : Type 0 where
  pub spans : List (List ℕ)
  pub stand : AllZip StandsFor items spans
  pub whole : concatenated spans ≡ cs

-- characters match items exactly where they can be cut so
abbrev pub MatchesAreCuts : Type 0
MatchesAreCuts = (items : List PatternItem) (cs : List ℕ) → (matches items cs ≡ true) ↔ IsCutBy items cs

-- whether a value is one of several
abbrev pub is_among : PlainValue → List PlainValue → Bool
is_among v vs = list_any (same_value v) vs

-- the least and the greatest of a flat column are two of its values, and each of them lies between
abbrev pub ExtremesAreBounds : Type 0
ExtremesAreBounds =
    (c : Column) (v w : PlainValue) → IsTrue (is_flat c.dtype) → IsColumn c → least (valid_values c.values) ≡ Some v → greatest (valid_values c.values) ≡ Some w
    → IsTrue (is_among v (valid_values c.values)) × IsTrue (is_among w (valid_values c.values))
    × IsTrue (list_all (λ u. is_le (value_cmp v u) && is_le (value_cmp u w)) (valid_values c.values))

-- What a row function answers of a column is a column: each value is of the answer's type. Where operands are refused nothing is said
pub record AnswersAreColumns : Type 0 where
  pub slice : (c : Column) (start end : ℕ) → IsColumn c → IsColumn (sliced c start end)
  pub filter : (c : Column) (keep : List Bool) → IsColumn c → IsColumn (filtered c keep)
  pub mask : (c : Column) (keep : List Bool) → IsColumn c → IsColumn (masked c keep)
  pub take : (c indices : Column) → IsColumn c → IsColumn indices → take_refusal c indices ≡ None → IsColumn (taken c indices)
  pub cast : (c : Column) (t : PlainType) → cast_refusal c t ≡ None → IsColumn (casted c t)
  pub fill_null : (c : Column) (fill : PlainScalar) → IsColumn c → IsTrue (fits fill.dtype fill.value) → fill_null_refusal c fill ≡ None → IsColumn (null_filled c fill)
  pub compare : (op : CompareOperator) (c d : Column) → IsColumn c → IsColumn d → IsColumn (comparison op c d)
  pub between : (options : BetweenOptions) (c low high : Column) → IsColumn c → IsColumn low → IsColumn high → IsColumn (comparisons.between options c low high)
  pub like : (options : LikeOptions) (c texts : Column) → IsColumn c → IsColumn texts → IsColumn (patterns.like options c texts)
  pub not : (c : Column) → IsColumn c → not_refusal c ≡ None → IsColumn (negation c)
