-- The cells of integer types.
use Rattle.std.proofs.Common.{◌≡◌, refl}
use Rattle.std.specs.Prelude.{IsTrue}
use Rattle.vx_base.specs.IntegersIn.{integer_in}
use Rattle.vx_base.specs.PlainScalar.{fits}
use Rattle.vx_base.specs.PlainType.{PlainType, primitive, is_leaf, is_integer}
use Rattle.vx_base.specs.PlainValue.{PlainValue, null, int, cell}

-- an integer type is a leaf type
pub leaf-integer : (t : PlainType) → IsTrue (is_integer t) → IsTrue (is_leaf t)
leaf-integer (primitive p n) h = refl
leaf-integer t h = absurd cc

-- a value of an integer type is null or an integer
pub cell-integer_in : (t : PlainType) (v : PlainValue) → IsTrue (is_integer t) → IsTrue (fits t v) → cell (integer_in v) ≡ v
cell-integer_in t null h f = refl
cell-integer_in (primitive p n) (int z) h f = refl
cell-integer_in (primitive p n) v h f = absurd cc
cell-integer_in t v h f = absurd cc

pub ruleset integer_cells = (leaf-integer, cell-integer_in)
