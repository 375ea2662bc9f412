use Rattle.vx_model.specs.Tree.{patches}
use Rattle.vx_model.proofs.PackedLemmas.{chunked_accepted}
use Rattle.vx_array.proofs.array.Patches.of_chunks.Goals as goal

pub invariant_of-result : goal.invariant_of-result
invariant_of-result c =
    chunked_accepted (patches c.args.array_len c.args.offset c.args.indices c.args.values) c.args.chunk_offsets c.requires c.known.ensures c.known-2.ensures c.known-3.ensures
