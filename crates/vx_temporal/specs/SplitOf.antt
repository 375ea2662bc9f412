-- What a column of timestamps is split into.
use Rattle.std.specs.Prelude.{◌≡◌, ℤ, List, map, None, Result}
use Rattle.vx_base.specs.declared.dtype.Nullability.{Nullability}
use Rattle.vx_base.specs.declared.error.VortexError.{VortexError}
use Rattle.vx_base.specs.declared.timestamp.TimeUnit.{TimeUnit}
use Rattle.vx_base.specs.PlainType as types
use Rattle.vx_base.specs.PlainValue.{PlainValue, whole_or_zero}
use Rattle.vx_model.specs.Column.{Column}
use Rattle.vx_model.specs.Plain.{plain}
use Rattle.vx_temporal.specs.declared.parts.TemporalParts.{TemporalParts}
use Rattle.vx_temporal.specs.Split.{days_of, divisor_in, others_of, subseconds_tree}
use Rattle.vx_temporal.specs.Settled.{Settled}
use Rattle.vx_temporal.specs.SplitRows.{days_refusal, second_in}
use Rattle.vx_time.specs.PartsOf.{units_per_second}

-- the parts of timestamps, d units of which make a second
pub record AreSplit (d : ℤ) (n : Nullability) (vs : List PlainValue) (p : TemporalParts) : Type 0 where
  pub days : p.days ≡ plain (days_of d n vs)
  pub seconds : p.seconds ≡ plain (others_of (second_in d) vs)
  pub subseconds : p.subseconds ≡ subseconds_tree d vs

-- the parts of a column
abbrev pub IsSplitOf : Column → TemporalParts → Type 0
IsSplitOf c p = AreSplit (divisor_in c.dtype) (types.nullability_of c.dtype) c.values p

-- how a call answers that splits values of a nullability, in which u counts
abbrev pub Splits : TimeUnit → Nullability → List PlainValue → Result TemporalParts VortexError → Type 0
Splits u n vs result = Settled None (days_refusal (units_per_second u) (map whole_or_zero vs)) (AreSplit (units_per_second u) n vs) result
