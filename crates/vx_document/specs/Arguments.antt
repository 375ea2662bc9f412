-- The arguments of a command: how many there are, and what each is.
use Rattle.std.specs.Prelude.{ℕ, List, [], ◌∷◌, find, Bool, false, ◌||◌, if◌then◌else◌, is_some, Option, Some, None, option_map, codes}
use Rattle.std.specs.Str.{bytes_eq}
use Rattle.serde_json.specs.Data.{Data, null, boolean, number, string, array, object, Items, no_items, item, Members, no_members, member}
use Rattle.serde_json.specs.Find.{as_null, as_bool, as_str, as_array, is_float}
use Rattle.vx_rules.specs.declared.options.CompareOperator.{CompareOperator}
use Rattle.vx_rules.specs.declared.options.CompareOperator.TheVariants as ops
use Rattle.vx_rules.specs.declared.options.BetweenOptions.{BetweenOptions}
use Rattle.vx_rules.specs.declared.options.LikeOptions.{LikeOptions}
use Rattle.vx_document.specs.Reading.{◌>>=◌, all_by}
use Rattle.vx_document.specs.Words.{word_of}

-- ---- how many arguments there are

-- one argument
abbrev pub one : Items → Option Data
one (item a no_items) = Some a
one _ = None

-- two arguments
abbrev pub two : Items → Option (Data × Data)
two (item a (item b no_items)) = Some (a, b)
two _ = None

-- one argument, and perhaps a second
abbrev pub one_or_two : Items → Option (Data × Option Data)
one_or_two (item a no_items) = Some (a, None)
one_or_two (item a (item b no_items)) = Some (a, Some b)
one_or_two _ = None

-- two pairs of arguments
abbrev pub four : Items → Option ((Data × Data) × (Data × Data))
four (item a (item b (item c (item d no_items)))) = Some ((a, b), (c, d))
four _ = None

-- ---- what an argument is

-- a float stands somewhere in the value
abbrev mutual
  pub has_float : Data → Bool
  has_float null = false
  has_float (boolean b) = false
  has_float (number n) = is_float n
  has_float (string text) = false
  has_float (array ds) = items_float ds
  has_float (object ms) = members_float ms

  -- in one of the items
  pub items_float : Items → Bool
  items_float no_items = false
  items_float (item d ds) = has_float d || items_float ds

  -- in a member
  pub members_float : Members → Bool
  members_float no_members = false
  members_float (member key d ms) = has_float d || members_float ms

-- any value without a float
abbrev pub operand_of : Data → Option Data
operand_of d = if has_float d then None else Some d

-- a list of truth values
abbrev pub bits_in : Data → Option (List Bool)
bits_in d = as_array d >>= all_by as_bool

-- an index from 0 to 2^64 - 1, or null
abbrev pub index_of : Data → Option (Option ℕ)
index_of d = if is_some (as_null d) then Some None else option_map Some (word_of d)

-- a list of indices
abbrev pub indices_in : Data → Option (List (Option ℕ))
indices_in d = as_array d >>= all_by index_of

-- the text of an operator
abbrev pub operator_text : CompareOperator → List ℕ
operator_text ops.Eq = codes "=="
operator_text ops.NotEq = codes "!="
operator_text ops.Gt = codes ">"
operator_text ops.Gte = codes ">="
operator_text ops.Lt = codes "<"
operator_text ops.Lte = codes "<="

-- the operator with this text
unfoldable pub operator_named : List ℕ → Option CompareOperator
operator_named text = find (λ op. bytes_eq text (operator_text op)) (ops.Eq ∷ ops.NotEq ∷ ops.Gt ∷ ops.Gte ∷ ops.Lt ∷ ops.Lte ∷ [])

-- an operator, by its text
abbrev pub operator_of : Data → Option CompareOperator
operator_of d = as_str d >>= operator_named

-- which bounds are strict, the lower one first
abbrev pub bounds_of : Data × Data → Option BetweenOptions
bounds_of p = do
  lower ← as_bool p.0
  upper ← as_bool p.1
  Some (record { lower_strict = lower; upper_strict = upper })

-- whether the pattern is negated; absent, it isn't
abbrev pub negation_in : Option Data → Option LikeOptions
negation_in None = Some (record { negated = false })
negation_in (Some d) = option_map (λ b. record { negated = b }) (as_bool d)
