-- Worked values of sequences.
use Rattle.std.specs.Prelude.{◌≡◌, [], ◌∷◌, pos, negsuc, Some, None, refl}
use Rattle.vx_base.specs.declared.ptype.PType.TheVariants.{U8, I8}
use Rattle.vx_base.specs.declared.dtype.Nullability.TheVariants.{NonNullable, Nullable}
use Rattle.vx_base.specs.PlainType as types
use Rattle.vx_base.specs.PlainValue.{null, int}
use Rattle.vx_model.specs.Column.{column}
use Rattle.vx_model.specs.Tree.{sequence}
use Rattle.vx_scheme.specs.Scores.{ratio_of}
use Rattle.vx_scheme.specs.declared.estimate.EstimateVerdict.TheVariants.{Skip}
use Rattle.vx_schemes_runs.specs.Sequence.Meaning.{sequence_verdict}
use Rattle.vx_schemes_runs.specs.Sequence.Tree.{sequence_made}

-- 3, 2, 1 falls by 1, which no type without a sign has
pub sequence_made-falling :
    (sequence_made (column (types.primitive I8 Nullable) (int (pos 3) ∷ int (pos 2) ∷ int (pos 1) ∷ [])) ≡ Some (sequence I8 Nullable (pos 3) (negsuc 0) 3))
    × (sequence_made (column (types.primitive U8 NonNullable) (int (pos 3) ∷ int (pos 2) ∷ int (pos 1) ∷ [])) ≡ None)
sequence_made-falling = (refl, refl)

-- one row, a null, and a step that changes
pub sequence_made-none :
    (sequence_made (column (types.primitive I8 NonNullable) (int (pos 3) ∷ [])) ≡ None) × (sequence_made (column (types.primitive I8 Nullable) (int (pos 3) ∷ null ∷ int (pos 1) ∷ [])) ≡ None)
    × (sequence_made (column (types.primitive I8 NonNullable) (int (pos 3) ∷ int (pos 2) ∷ int (pos 0) ∷ [])) ≡ None)
sequence_made-none = (refl, refl, refl)

-- from 0 to 99 in steps of 1
pub sequence_verdict-hundred : (sequence_verdict 100 (Some (pos 0, pos 1)) ≡ ratio_of 100 2) × (sequence_verdict 100 None ≡ Skip)
sequence_verdict-hundred = (refl, refl)
