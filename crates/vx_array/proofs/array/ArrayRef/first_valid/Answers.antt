use Rattle.std.proofs.Common.{◌∙◌, sym}
use Rattle.vx_array.proofs.AtNode.{at_node, no_nulls}
use Rattle.vx_array.proofs.PlainRows.{position-nulls, root-kept}
use Rattle.vx_array.proofs.array.ArrayRef.first_valid.Goals as goal

pub returns-in-Null : goal.returns-in-Null
returns-in-Null c =
    let a = at_node c.self.view_is c.self.invariant c.in-Null.is in
    rw a.is (sym (position-nulls c.in-Null.field-0))

pub first_kept-requires : goal.first_kept-requires
first_kept-requires c =
    let other = no_nulls c.self.inside.node c.in_default.not-Null in
    record { plain = c.requires; kept = root-kept c.args.self.now c.requires (λ len e. other len (c.self.view_is ∙ e)) }
