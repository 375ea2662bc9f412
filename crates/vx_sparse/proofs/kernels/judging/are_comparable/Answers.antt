use Rattle.std.proofs.Common.{◌≡◌, ◌∙◌, sym, ap}
use Rattle.std.specs.Prelude.{◌&&◌}
use Rattle.vx_base.specs.PlainType.{same_base, stored_type}
use Rattle.vx_base.specs.Storable.{same_from}
use Rattle.vx_base.specs.TypeOf.{type_of}
use Rattle.vx_sparse.proofs.kernels.judging.are_comparable.Goals as goal

pub returns-then-is_flat : goal.returns-then-is_flat
returns-then-is_flat c =
    let same : c.same_base.result ≡ same_base (type_of c.args.left.now) (type_of c.args.right.now) = same_from stored_type _ _ c.same_base.result c.same_base.ensures.0 c.same_base.ensures.1 in
    same ∙ ap (λ b. b && same_base (type_of c.args.left.now) (type_of c.args.right.now)) (sym (sym c.is_flat.ensures ∙ c.if-is_flat.true))
