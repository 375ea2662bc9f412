use Rattle.std.proofs.Common.{arith}
use Rattle.std.proofs.lemmas.Bool.Decides.{nat_tests}
use Rattle.vx_blocks.proofs.Rows.{kept_row-wide}
use Rattle.vx_blocks.proofs.filling.fit.Goals as goal

pub returns-else-bits-width-eq0 : goal.returns-else-bits-width-eq0
returns-else-bits-width-eq0 c = grind (arith, kept_row-wide, nat_tests)
