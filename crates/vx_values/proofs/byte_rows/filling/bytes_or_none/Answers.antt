use Rattle.std.proofs.Common.{sym, []}
use Rattle.vx_values.proofs.Cells.{index_or-none}
use Rattle.vx_values.proofs.byte_rows.filling.bytes_or_none.Goals as goal

pub returns-in-None : goal.returns-in-None
returns-in-None c = sym (index_or-none c.args.rows.now c.args.row [] (sym c.in-None.ensures))
