use Rattle.std.proofs.Common.{◌∙◌, sym, arith}
use Rattle.vx_file.specs.Answers.{is_storable}
use Rattle.vx_file.proofs.Steps.{each_goes_on, each_stops}
use Rattle.vx_file.proofs.storable.are_storable.Goals as goal

pub returns-then-not-is_storable : goal.returns-then-not-is_storable
returns-then-not-is_storable c =
    each_stops is_storable c.as_slice-tree-items.result.now c.loop-tree.tree-index c.tree-item.result _ (omega arith) c.tree-item.is (sym c.is_storable.ensures ∙ c.if-not-is_storable.true) c.loop-tree.invariant

pub loop-tree-preserved : goal.loop-tree-preserved
loop-tree-preserved c =
    each_goes_on is_storable c.as_slice-tree-items.result.now c.loop-tree.tree-index c.tree-item.result _ (omega arith) c.tree-item.is (sym c.is_storable.ensures ∙ c.if-not-is_storable.false) c.loop-tree.invariant
