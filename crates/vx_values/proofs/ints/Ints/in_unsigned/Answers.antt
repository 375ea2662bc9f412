use Rattle.vx_model.proofs.FrameOfReferenceLemmas.{unsigned_wholes-word}
use Rattle.vx_values.proofs.ints.Ints.in_unsigned.Goals as goal

pub words-requires : goal.words-requires
words-requires c = unsigned_wholes-word c.args.ptype _ c.requires.unsigned c.requires.held
