use Rattle.vx_program.proofs.FileReplies.{is_kept_file}
use Rattle.vx_program.proofs.answer.documents.kept.Goals as goal

pub returns-in-Ok : goal.returns-in-Ok
returns-in-Ok c = is_kept_file c.args.tree c.in_ok-trees.trees c.write_file.result c.in-Ok.file c.in_ok-trees.ensures c.in-Ok.is c.write_file.ensures.refused c.in-Ok.ensures.file
