use Rattle.vx_schemes_common.proofs.DigitLemmas.{high_digits}
use Rattle.vx_schemes_common.proofs.widths.greatest_of.Goals as goal

pub returns : goal.returns
returns c = high_digits c.args.digits c.requires.most
