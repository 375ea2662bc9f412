use Rattle.vx_ffi.proofs.Filing.{written_file}
use Rattle.vx_ffi.proofs.files.file_of.Goals as goal

pub returns-in-Ok-clause-file : goal.returns-in-Ok-clause-file
returns-in-Ok-clause-file c = written_file c.args.tree.now c.in_ok-trees.trees c.write_file.result c.in-Ok.file c.in_ok-trees.ensures c.in-Ok.is c.write_file.ensures.refused c.in-Ok.ensures.file
