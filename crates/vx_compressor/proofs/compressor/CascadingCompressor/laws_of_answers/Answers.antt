use Rattle.vx_compressor.specs.Cascade.{setting}
use Rattle.vx_compressor.proofs.CascadeLemmas.{lawful-map}
use Rattle.vx_compressor.proofs.KeptLemmas.{answers_are_fixed}
use Rattle.vx_compressor.proofs.compressor.CascadingCompressor.laws_of_answers.Goals as goal

pub returns : goal.returns
returns g c = λ words. answers_are_fixed (setting g.S.Scheme.meaning c.args.self.now words) (lawful-map g.S.Scheme.meaning g.met.S.Scheme.lawful c.args.self.now)
