use Rattle.vx_datetime.proofs.FurtherNulls.{further-rows}
use Rattle.vx_datetime.proofs.kernels.pairs.beneath.Goals as goal

pub returns-in-Some-clause-answer : goal.returns-in-Some-clause-answer
returns-in-Some-clause-answer c = further-rows c.args.tree c.args.valid.now c.in-Some.keep c.mask.result c.in-Some.is c.requires.lengths c.requires.nullable c.mask.ensures.answer
