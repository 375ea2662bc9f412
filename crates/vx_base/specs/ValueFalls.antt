-- A value within another has a smaller measure, so recursion over values ends.
use Rattle.std.specs.Prelude.{◌≤◌, List, [], ◌∷◌, map}
use Rattle.std.proofs.Common.{arith}
use denote.Param.Weighed.{most}
use Rattle.vx_base.specs.declared.value.Value.{Value}
use Rattle.vx_base.specs.declared.value.Values.TheDeep.{deep-Value}
use Rattle.vx_base.specs.declared.value.Value.TheVariants as is
use Rattle.vx_base.specs.PlainValue.{value_count, list_count}
use Rattle.vx_base.specs.TypeOf.{value_of}

deep_le-value_count : (v : Value) → deep-Value v ≤ value_count (value_of v)
deep_le-value_count is.Null = omega arith
deep_le-value_count (is.Bool b) = omega arith
deep_le-value_count (is.Int z) = omega arith
deep_le-value_count (is.Bytes b) = omega arith
deep_le-value_count (is.List vs) = omega arith

pub depth_le-list_count : (vs : List Value) → most deep-Value vs ≤ list_count (map value_of vs)
depth_le-list_count [] = omega arith
depth_le-list_count (v ∷ vs) = omega (arith, deep_le-value_count v, depth_le-list_count vs)
