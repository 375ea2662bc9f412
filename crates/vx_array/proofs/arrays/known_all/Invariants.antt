use Rattle.std.proofs.Common.{take}
use Rattle.vx_model.specs.Tree.{of_list}
use Rattle.vx_model.specs.WellFormed.{AllWellFormed}
use Rattle.vx_array.proofs.arrays.known_all.Given as goal

abbrev pub invariant-loop-item : goal.invariant-loop-item
invariant-loop-item l = AllWellFormed (of_list (take l.item-index l.items))
