use Rattle.std.proofs.Common.{◌∙◌, ◌^◌}
use Rattle.vx_values.proofs.Placed.{ascending_bits}
use Rattle.vx_values.proofs.run_rows.end_at.Goals as goal

pub returns : goal.returns
returns g c = c.to_bits.ensures.value ∙ ascending_bits g.C.Integer.whole g.C.Integer.kind 1 (2 ^ 64) c.args.ends.now c.args.run c.index-ends-run.result c.requires.rising c.requires.in_ends c.index-ends-run.is
