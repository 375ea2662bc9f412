use Rattle.std.proofs.Common.{◌≡◌, ◌-◌, ◌^◌, take}
use Rattle.std.specs.Prelude.{min, sum_by}
use Rattle.vx_model.specs.Size.{size}
use Rattle.vx_array.proofs.+nbytes.Given as goal

abbrev pub invariant-arrays::Arrays::nbytes-loop-tree : goal.invariant-arrays::Arrays::nbytes-loop-tree
invariant-arrays::Arrays::nbytes-loop-tree l = l.sum ≡ min (sum_by size (take l.tree-index l.tree-items)) (2 ^ 128 - 1)
