-- What stands in a row of truth values.
use Rattle.std.proofs.Common.{◌≡◌, ◌<◌, ◌∙◌, ℕ, ℤ, List, length, true, ap, sym}
use Rattle.vx_base.specs.PlainScalar.{fits}
use Rattle.vx_base.specs.PlainType.{PlainType, boolean, is_flat, nullability_of}
use Rattle.vx_base.specs.PlainValue.{int, bytes}
use Rattle.vx_model.specs.Rows.{rows, row_at}
use Rattle.vx_model.specs.Tree.{Tree}
use Rattle.vx_model.specs.TreeType.{tree_type}
use Rattle.vx_model.specs.WellFormed.{WellFormed}
use Rattle.vx_model.proofs.FrameOfReferenceLemmas.{row_fits}

boolean_fits : (t : Tree) (i : ℕ) → WellFormed t → tree_type t ≡ boolean (nullability_of (tree_type t)) → i < length (rows t) → fits (boolean (nullability_of (tree_type t))) (row_at (rows t) i) ≡ true
boolean_fits t i w e l = ap (λ s. fits s (row_at (rows t) i)) (sym e) ∙ row_fits t i w l

-- a row of truth values is no integer, and no bytes
pub truth-int : (t : Tree) (i : ℕ) (z : ℤ) → WellFormed t → tree_type t ≡ boolean (nullability_of (tree_type t)) → i < length (rows t) → int z ≡ row_at (rows t) i → ⊥
truth-int t i z w e l h = let f : fits (boolean (nullability_of (tree_type t))) (int z) ≡ true = ap (fits (boolean (nullability_of (tree_type t)))) h ∙ boolean_fits t i w e l in cc

pub truth-bytes : (t : Tree) (i : ℕ) (bs : List ℕ) → WellFormed t → tree_type t ≡ boolean (nullability_of (tree_type t)) → i < length (rows t) → bytes bs ≡ row_at (rows t) i → ⊥
truth-bytes t i bs w e l h = let f : fits (boolean (nullability_of (tree_type t))) (bytes bs) ≡ true = ap (fits (boolean (nullability_of (tree_type t)))) h ∙ boolean_fits t i w e l in cc

-- truth values are flat
pub truth-flat : (t : PlainType) → t ≡ boolean (nullability_of t) → is_flat t ≡ true
truth-flat t e = ap is_flat e

pub ruleset truths = (truth-flat, truth-int, truth-bytes)
