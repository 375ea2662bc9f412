use Rattle.std.proofs.Common.{◌≡◌, ◌∙◌, ap, cond, pos, sym}
use Rattle.std.specs.Int.{w128}
use Rattle.std.proofs.lemmas.Int.{to_z-of_z}
use Rattle.vx_base.specs.Integers.{lies_in}
use Rattle.vx_rows.proofs.kernels.conversions.in_type.Goals as goal

pub returns-in-Some : goal.returns-in-Some
returns-in-Some g c =
    let kind = g.U.Integer.kind in
    let same : g.U.Integer.whole c.in-Some.item ≡ c.args.whole = c.in-Some.ensures ∙ to_z-of_z w128 c.args.whole c.ranges.whole in
    same ∙ sym (ap (λ b. cond b c.args.whole (pos 0)) (ap (lies_in kind) (sym same) ∙ c.to_whole-held.ensures.held))
