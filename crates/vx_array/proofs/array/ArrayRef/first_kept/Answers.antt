use Rattle.std.proofs.Common.{◌∙◌, sym, arith}
use Rattle.vx_model.specs.Rows.{rows}
use Rattle.vx_array.proofs.PlainRows.{first-of_bits, first-of_none}
use Rattle.vx_array.proofs.array.ArrayRef.first_kept.Goals as goal

pub returns-in-Some : goal.returns-in-Some
returns-in-Some c = c.first.ensures ∙ first-of_bits (rows c.args.self.now) c.validity.result.now c.validity.ensures _ (sym c.in-Some.is)

pub returns-in-None-2 : goal.returns-in-None-2
returns-in-None-2 c = first-of_none (rows c.args.self.now) c.validity.result.now c.validity.ensures (sym c.in-None-2.is) (omega arith)
