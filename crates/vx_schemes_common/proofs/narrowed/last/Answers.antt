use Rattle.std.proofs.Common.{◌^◌}
use Rattle.vx_schemes_common.proofs.NarrowedLemmas.{last-greatest}
use Rattle.vx_schemes_common.proofs.narrowed.last.Goals as goal

pub returns : goal.returns
returns c = last-greatest 0 (2 ^ 64) c.args.numbers.now c.requires
