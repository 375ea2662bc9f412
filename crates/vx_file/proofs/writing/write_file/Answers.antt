use Rattle.std.proofs.Common.{◌∙◌, rules, sym, ap, arith}
use Rattle.vx_file.specs.Answers.{are_storable}
use Rattle.vx_file.proofs.FileSteps.{file_start, frames_more, storable_at}
use Rattle.vx_file.proofs.Steps.{part_more}
use Rattle.vx_file.proofs.writing.write_file.Goals as goal

pub loop-tree-init : goal.loop-tree-init
loop-tree-init c =
    record {
      stored = ap are_storable c.as_slice-tree-items.ensures ∙ sym c.are_storable.ensures ∙ c.if-not-are_storable.false;
      text = file_start c.new-out.result.items c.put_fixed.new.out.items c.put_varint.new.out.items c.args.trees.now c.as_slice-tree-items.result.now c.len.result (search rules) c.in_ok-put_fixed.ensures c.len.ensures c.in_ok-put_varint.ensures c.as_slice-tree-items.ensures;
    }

pub put_frame-requires : goal.put_frame-requires
put_frame-requires c = storable_at c.as_slice-tree-items.result.now c.loop-tree.tree-index c.tree-item.result (omega arith) c.tree-item.is c.loop-tree.invariant.stored

pub loop-tree-preserved : goal.loop-tree-preserved
loop-tree-preserved c =
    record {
      stored = c.loop-tree.invariant.stored;
      text = part_more _ _ _ _ _ _ c.in_ok-put_frame.ensures (frames_more c.as_slice-tree-items.result.now c.loop-tree.tree-index c.tree-item.result (omega arith) c.tree-item.is) c.loop-tree.invariant.text;
    }
