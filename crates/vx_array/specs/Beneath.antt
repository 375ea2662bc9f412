-- What stands beneath nulls in plain trees of nested columns: the default of the type, and in lists no elements.
use Rattle.std.specs.Prelude.{IsTrue, Bool, true, false, not, pos, ◌==◌, List, length}
use Rattle.std.specs.List.{list_all}
use Rattle.std.specs.Ordering.{int_eq}
use Rattle.vx_base.specs.declared.ptype.PType.{PType}
use Rattle.vx_base.specs.declared.ptype.PType.TheVariants.{U64}
use Rattle.vx_base.specs.Defaults.{null_or_default}
use Rattle.vx_base.specs.PlainType.{PlainType}
use Rattle.vx_base.specs.PlainValue.{PlainValue, truth, int, bytes, same_value}
use Rattle.vx_model.specs.Decoded.{zero_beneath_by}
use Rattle.vx_model.specs.Plain.{IsPlain}
use Rattle.vx_model.specs.Rows.{rows}
use Rattle.vx_model.specs.Tree.{Tree, Trees, Validity, primitive, none, more}
use Rattle.vx_model.specs.TreeType.{tree_type}

-- whether a value is the default of a type, null where that is nullable
abbrev pub is_default : PlainType → PlainValue → Bool
is_default t v = same_value v (null_or_default t)

-- whether each row of a tree is the default where the validity is false
abbrev pub defaults_beneath : Validity → Tree → Bool
defaults_beneath valid t = zero_beneath_by (is_default (tree_type t)) valid (rows t)

-- each of several trees is plain, with the default where the validity is false
abbrev pub ArePlain : Validity → Trees → Type 0
ArePlain valid none = Unit {0}
ArePlain valid (more t ts) = (IsPlain t × IsTrue (defaults_beneath valid t)) × ArePlain valid ts

-- whether each list is empty where the validity is false
abbrev pub empty_beneath : Validity → List (List PlainValue) → Bool
empty_beneath valid parts = zero_beneath_by (λ part. length part == 0) valid parts

-- whether each item of a list is the default where the validity is false
abbrev pub defaults_within : PlainType → Validity → List (List PlainValue) → Bool
defaults_within t valid parts = zero_beneath_by (λ part. list_all (is_default t) part) valid parts

-- whether a value is false, 0 or without bytes
abbrev pub is_zero : PlainValue → Bool
is_zero (truth b) = not b
is_zero (int z) = int_eq z (pos 0)
is_zero (bytes bs) = length bs == 0
is_zero _ = false

-- whether an integer type is u64
abbrev pub is_u64 : PType → Bool
is_u64 U64 = true
is_u64 _ = false

-- whether a tree's root is a Primitive of u64
abbrev pub has_words : Tree → Bool
has_words (primitive p xs valid n) = is_u64 p
has_words _ = false
