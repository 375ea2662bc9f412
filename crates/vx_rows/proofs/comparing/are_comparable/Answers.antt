use Rattle.std.proofs.Common.{◌∙◌, ap, sym}
use Rattle.std.specs.Prelude.{◌&&◌}
use Rattle.vx_base.specs.PlainType.{same_base}
use Rattle.vx_base.specs.TypeOf.{type_of}
use Rattle.vx_rows.proofs.comparing.are_comparable.Goals as goal

pub returns-then-is_flat : goal.returns-then-is_flat
returns-then-is_flat c = c.have_one_base.ensures ∙ ap (λ b. b && same_base (type_of c.args.left.now) (type_of c.args.right.now)) (sym c.if-is_flat.true ∙ c.is_flat.ensures)
