use Rattle.vx_compressor.proofs.ChoiceLemmas.{best_is_choice}
use Rattle.vx_compressor.proofs.choice.best_is_choice.Goals as goal

pub returns : goal.returns
returns g c = best_is_choice
