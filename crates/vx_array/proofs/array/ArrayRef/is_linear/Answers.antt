use Rattle.std.proofs.Common.{inl, inr}
use Rattle.vx_array.proofs.AtNode.{at_node}
use Rattle.vx_array.proofs.UniformTrees.{linear-sequence}
use Rattle.vx_array.proofs.array.ArrayRef.is_linear.Goals as goal

pub returns-in-Sequence : goal.returns-in-Sequence
returns-in-Sequence c =
    let here = c.in-Sequence in
    let a = at_node c.self.view_is c.self.invariant here.is in
    λ h. rw a.is (inr (linear-sequence here.field-0 here.field-1 here.field-2 here.field-3 here.field-4))

pub returns-in_default : goal.returns-in_default
returns-in_default c = λ h. inl (c.is_uniform.ensures h)
