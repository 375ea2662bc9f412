use Rattle.std.proofs.Common.{◌∙◌, ap}
use Rattle.vx_base.specs.IntegersIn.{integer_in}
use Rattle.vx_base.specs.PlainValue.{cell}
use Rattle.vx_model.proofs.CellLemmas.{cell-row_at}
use Rattle.vx_array.proofs.array.ArrayRef.integer_at.Goals as goal

pub returns : goal.returns
returns c = ap cell (c.integer.ensures ∙ ap integer_in c.cell_at.ensures) ∙ cell-row_at c.args.self.now c.args.row c.known.ensures c.requires.integer c.requires.in_range
