use Rattle.std.proofs.Common.{◌≡◌, map, subst, sym}
use Rattle.std.specs.Prelude.{Result}
use Rattle.vx_base.specs.declared.error.VortexError.{VortexError}
use Rattle.vx_base.specs.Answers.{OrMemory}
use Rattle.vx_base.specs.PlainValue.{int}
use Rattle.vx_values.specs.declared.ints.Ints.{Ints}
use Rattle.vx_values.specs.declared.values.Values.{Values}
use Rattle.vx_values.specs.IntsOf.{wholes_of}
use Rattle.vx_values.specs.Placed.{by_runs}
use Rattle.vx_values.specs.ValuesOf.{kind_in, values_of, default_in}
use Rattle.vx_values.proofs.values.Values.in_runs.Goals as goal

-- the answer is the values of a list in the runs' rows
abbrev AreInRuns : Ints → Result Values VortexError → Values → Type 0
AreInRuns ends result v = OrMemory result (λ values. (kind_in values ≡ kind_in v) × (values_of values ≡ by_runs (map int (wholes_of ends)) (values_of v) (default_in (kind_in v))))

pub returns-in-Bits : goal.returns-in-Bits
returns-in-Bits c = subst (AreInRuns c.args.ends.now c.truths_in_runs.result) (sym c.in-Bits.is) c.truths_in_runs.ensures

pub returns-in-Ints : goal.returns-in-Ints
returns-in-Ints c = subst (AreInRuns c.args.ends.now c.integers_in_runs.result) (sym c.in-Ints.is) c.integers_in_runs.ensures

pub returns-in-Bytes : goal.returns-in-Bytes
returns-in-Bytes c = subst (AreInRuns c.args.ends.now c.rows_in_runs.result) (sym c.in-Bytes.is) c.rows_in_runs.ensures
