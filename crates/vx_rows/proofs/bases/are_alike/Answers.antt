use Rattle.vx_base.specs.TypeOf.{type_of}
use Rattle.vx_rows.proofs.BaseLemmas.{alike}
use Rattle.vx_rows.proofs.bases.are_alike.Goals as goal

pub returns : goal.returns
returns c = alike (type_of c.args.left.now) (type_of c.args.right.now) c.same_base.result (λ t. c.same_base.ensures.0 t) (λ e. c.same_base.ensures.1 e)
