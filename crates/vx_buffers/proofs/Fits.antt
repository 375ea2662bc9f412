-- The constructors accept validity with a bit for each row.
use Rattle.std.proofs.Common.{◌≡◌, ◌∙◌, ℕ, Bool, List, length, map, ap, Some, None}
use Rattle.std.proofs.lemmas.Bool.{eq-eqb}
use Rattle.std.proofs.lemmas.List.{length-map}
use Rattle.std.proofs.lemmas.List.FromFn.{length-map-range_with_len}
use Rattle.vx_base.specs.Answers.{unless}
use Rattle.vx_base.specs.declared.dtype.Nullability.TheVariants.{Nullable}
use Rattle.vx_base.specs.declared.error.VortexError.TheVariants.{LengthMismatch}
use Rattle.vx_buffers.specs.Given.{bits_from, is_set}
use Rattle.vx_model.specs.Refusals.{primitive_refusal}

bits_fit : (bits : List Bool) (rows : ℕ) → length bits ≡ rows → primitive_refusal rows (Some bits) Nullable ≡ None
bits_fit bits rows e = ap (λ b. unless b LengthMismatch None) (eq-eqb (length bits) rows e)

-- by bytes
pub bytes_fit : (bytes : List ℕ) (rows : ℕ) → length bytes ≡ rows → primitive_refusal rows (Some (map is_set bytes)) Nullable ≡ None
bytes_fit bytes rows e = bits_fit (map is_set bytes) rows (length-map bytes is_set ∙ e)

-- by bits
pub bitmap_fits : (bytes : List ℕ) (offset rows : ℕ) → primitive_refusal rows (Some (bits_from bytes offset rows)) Nullable ≡ None
bitmap_fits bytes offset rows = bits_fit (bits_from bytes offset rows) rows (length-map-range_with_len _ 0 rows)

pub ruleset fitting = (bytes_fit, bitmap_fits)
