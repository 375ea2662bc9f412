use Rattle.vx_spelling.proofs.FileLaws.{files_apart}
use Rattle.vx_spelling.proofs.laws.unlike_lists_have_unlike_files.Goals as goal

pub returns : goal.returns
returns c = files_apart
