use Rattle.vx_program.proofs.Compression.{is_compressed}
use Rattle.vx_program.proofs.answer.compressed.compressed_by.Goals as goal

pub returns-in-Ok : goal.returns-in-Ok
returns-in-Ok c = is_compressed _ _ _ c.requires.plain c.nbytes-plain.ensures (rw c.requires.shipped at c.in-Ok.ensures.answer) c.in-Ok.ensures.kept
