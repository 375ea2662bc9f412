use Rattle.std.proofs.Common.{◌≡◌, map, subst, sym}
use Rattle.std.specs.Prelude.{Result}
use Rattle.vx_base.specs.declared.error.VortexError.{VortexError}
use Rattle.vx_base.specs.Answers.{OrMemory}
use Rattle.vx_model.specs.Decoded.{picked}
use Rattle.vx_values.specs.declared.ints.Ints.{Ints}
use Rattle.vx_values.specs.declared.values.Values.{Values}
use Rattle.vx_values.specs.IntsOf.{ptype_of, wholes_of}
use Rattle.vx_values.specs.ValuesOf.{kind_in, values_of, default_in}
use Rattle.vx_values.proofs.values.Values.picked.Goals as goal

-- the answer is what the codes pick of a list
abbrev ArePicked : Ints → Result Values VortexError → Values → Type 0
ArePicked codes result v =
    OrMemory result (λ values. (kind_in values ≡ kind_in v) × (values_of values ≡ map (λ code. picked (ptype_of codes) (values_of v) (default_in (kind_in v)) code) (wholes_of codes)))

pub returns-in-Bits : goal.returns-in-Bits
returns-in-Bits c = subst (ArePicked c.args.codes.now c.picked_truths.result) (sym c.in-Bits.is) c.picked_truths.ensures

pub returns-in-Ints : goal.returns-in-Ints
returns-in-Ints c = subst (ArePicked c.args.codes.now c.picked_integers.result) (sym c.in-Ints.is) c.picked_integers.ensures

pub returns-in-Bytes : goal.returns-in-Bytes
returns-in-Bytes c = subst (ArePicked c.args.codes.now c.picked_rows.result) (sym c.in-Bytes.is) c.picked_rows.ensures
