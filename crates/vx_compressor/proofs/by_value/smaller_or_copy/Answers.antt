use Rattle.std.proofs.Common.{◌≤◌, arith}
use Rattle.vx_model.specs.Size.{nbytes}
use Rattle.vx_compressor.proofs.ByValueLemmas.{not_smaller}
use Rattle.vx_compressor.proofs.OneValueTrees.{answers_along}
use Rattle.vx_compressor.proofs.by_value.smaller_or_copy.Goals as goal

pub returns-then-nbytes : goal.returns-then-nbytes
returns-then-nbytes c =
    let more : nbytes c.args.plain.now ≤ nbytes c.args.tree = omega arith in
    answers_along c.copy.result _ _ (not_smaller c.args.plain.now c.args.tree c.known.ensures c.requires.flat c.requires.few c.requires.plain more) c.copy.ensures
