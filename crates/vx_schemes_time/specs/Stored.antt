-- The parts of timestamps as they are split off, before they are narrowed.
use Rattle.std.specs.Prelude.{◌≡◌, ◌⊎◌, ℕ, pos, length}
use Rattle.vx_base.specs.declared.dtype.Nullability.TheVariants.{NonNullable}
use Rattle.vx_base.specs.declared.ptype.PType.TheVariants.{I32}
use Rattle.vx_base.specs.PlainScalar.{scalar}
use Rattle.vx_base.specs.PlainType.{nullability_of}
use Rattle.vx_base.specs.PlainType as types
use Rattle.vx_base.specs.PlainValue.{int}
use Rattle.vx_model.specs.Plain.{IsPlain}
use Rattle.vx_model.specs.Rows.{rows}
use Rattle.vx_model.specs.Tree.{Tree, constant}
use Rattle.vx_model.specs.TreeType.{tree_type}

-- plain integers of 32 signed bits
pub record IsStored32 (t : Tree) : Type 0 where
  pub own : IsPlain t
  pub integers : tree_type t ≡ types.primitive I32 (nullability_of (tree_type t))

-- 0 in each row, as a Constant
abbrev pub constant_zeros : ℕ → Tree
constant_zeros len = constant (scalar (types.primitive I32 NonNullable) (int (pos 0))) len

-- a part is either
abbrev pub IsStored : Tree → Type 0
IsStored t = IsStored32 t ⊎ (t ≡ constant_zeros (length (rows t)))
