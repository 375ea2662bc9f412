use Rattle.std.proofs.Common.{◌≤◌, refl, arith}
use Rattle.vx_model.specs.Size.{nbytes}
use Rattle.vx_compressor.proofs.ByValueLemmas.{not_smaller}
use Rattle.vx_compressor.proofs.by_value.smaller.Goals as goal

pub returns-else-nbytes : goal.returns-else-nbytes
returns-else-nbytes c =
    let more : nbytes c.args.plain ≤ nbytes c.args.tree = omega arith in
    record { tree = not_smaller c.args.plain c.args.tree c.known.ensures c.requires.flat c.requires.few c.requires.plain more; plain = refl }
