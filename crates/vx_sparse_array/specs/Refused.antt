-- Why a sparse array is refused.
use Rattle.std.specs.Prelude.{ℕ, Option}
use Rattle.vx_base.specs.Answers.{unless}
use Rattle.vx_base.specs.declared.error.VortexError.{VortexError}
use Rattle.vx_base.specs.declared.error.VortexError.TheVariants.{MismatchedTypes}
use Rattle.vx_base.specs.PlainScalar.{PlainScalar}
use Rattle.vx_base.specs.PlainType.{same_type}
use Rattle.vx_model.specs.Refusals.{patches_refusal}
use Rattle.vx_model.specs.Tree.{Tree, patches}
use Rattle.vx_model.specs.TreeType.{tree_type}

-- of indices, values and a fill: first the values are of another type than the fill, then the patches are refused
abbrev pub parts_refusal : ℕ → Tree → Tree → PlainScalar → Option VortexError
parts_refusal len indices values fill = unless (same_type (tree_type values) fill.dtype) MismatchedTypes (patches_refusal (patches len 0 indices values))
