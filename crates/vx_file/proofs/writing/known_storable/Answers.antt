use Rattle.vx_file.proofs.FileSteps.{storable_each}
use Rattle.vx_file.proofs.writing.known_storable.Goals as goal

pub returns : goal.returns
returns c = storable_each c.args.trees.now c.known.ensures
