use Rattle.vx_base.proofs.DigitsLemmas.{digits-le, le-digits}
use Rattle.vx_blocks.proofs.laws.digits_are_fewest.Goals as goal

pub returns : goal.returns
returns c number count = (λ few. le-digits number count few, λ small. digits-le number count small)
