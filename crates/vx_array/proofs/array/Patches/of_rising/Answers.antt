use Rattle.vx_model.specs.Tree.{patches}
use Rattle.vx_model.proofs.PackedLemmas.{patches_accepted}
use Rattle.vx_array.proofs.array.Patches.of_rising.Goals as goal

pub invariant_of-result : goal.invariant_of-result
invariant_of-result c = patches_accepted (patches c.args.array_len c.args.offset c.args.indices c.args.values) c.requires c.known.ensures c.known-2.ensures tt
