use Rattle.vx_spelling.proofs.FileLaws.{texts_apart}
use Rattle.vx_spelling.proofs.laws.no_node_text_begins_another.Goals as goal

pub returns : goal.returns
returns c = texts_apart
