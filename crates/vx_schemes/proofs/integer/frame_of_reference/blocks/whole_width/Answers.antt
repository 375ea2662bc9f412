use Rattle.std.proofs.Common.{◌+◌, ◌∙◌, drop, sym}
use Rattle.vx_schemes.proofs.BitPacking.Wide.{none_counted}
use Rattle.vx_schemes.proofs.integer.frame_of_reference.blocks.whole_width.Goals as goal

pub returns-clause-none_above : goal.returns-clause-none_above
returns-clause-none_above c = none_counted (drop (c.best_width-width.result + 1) c.args.counts.now) (sym c.counts_above.ensures ∙ c.if-counts_above.false)
