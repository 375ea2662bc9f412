use Rattle.vx_model.specs.Size.{size}
use Rattle.vx_compressor.proofs.ScoreLemmas.{finite_score}
use Rattle.vx_compressor.proofs.judging.size_score.Goals as goal

pub returns : goal.returns
returns c =
    finite_score c.new.result (size c.args.plain.now) (size c.args.tree) c.nbytes-before.result c.nbytes-after.result c.nbytes-before.ensures c.nbytes-after.ensures c.requires c.if-before-after.false c.new.ensures.num c.new.ensures.den
