use Rattle.std.proofs.Common.{◌≡◌, ◌++◌, subst, arith}
use Rattle.vx_base.specs.Answers.{OrMemory}
use Rattle.vx_pieces.proofs.RepeatLemmas.{repeated-empty, repeated-single}
use Rattle.vx_pieces.proofs.pieced.add_blocks.Goals as goal

pub returns-in-empty : goal.returns-in-empty
returns-in-empty g c = repeated-empty c.args.all.now.items c.args.times c.args.block.now (omega (arith, c.in-empty.len_below))

pub returns-in-len1 : goal.returns-in-len1
returns-in-len1 g c =
    let same = repeated-single c.args.times c.args.block.now c.item-item.result (omega (arith, c.in-len1.len_at_least)) (omega (arith, c.in-len1.len_below)) c.item-item.is in
    subst (λ ys. OrMemory c.add_copies.result (λ x. c.add_copies.new.all.items ≡ c.args.all.now.items ++ ys)) same c.add_copies.ensures
