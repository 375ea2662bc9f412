use Rattle.vx_spelling.specs.FileSpelling.{framed_tree}
use Rattle.vx_codec.specs.Lists.{repeated_at}
use Rattle.vx_codec.proofs.Loops.{handed_on, repeated_end, repeated_next}
use Rattle.vx_file.proofs.reading.read_frames.Goals as goal

pub returns-in_err-tree : goal.returns-in_err-tree
returns-in_err-tree c =
    let p = framed_tree.parse in
    let total = repeated_at p c.args.count c.args.bytes.now in
    handed_on (λ x. (x.0, x.1.now)) c.from_residual.result c.in_err-tree.field-0.0 total c.from_residual.ensures.1
    (repeated_end p c.in_err-tree.field-0.0 c.loop.trees c.args.count c.loop.counter c.loop.rest.now total c.loop-test.true c.in_err-tree.ensures c.loop.invariant)

pub loop-preserved : goal.loop-preserved
loop-preserved c =
    let p = framed_tree.parse in
    repeated_next p c.loop.trees c.args.count c.loop.counter c.loop.rest.now c.in_ok-tree.tree c.in_ok-tree.after.now (repeated_at p c.args.count c.args.bytes.now) c.push_tree.new.trees
    c.loop-test.true c.in_ok-tree.ensures c.in_ok-push_tree.ensures.pushed c.loop.invariant
