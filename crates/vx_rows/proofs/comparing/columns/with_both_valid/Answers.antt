use Rattle.std.proofs.Common.{◌∙◌, ap, length, map, refl}
use Rattle.vx_base.specs.PlainValue.{truth}
use Rattle.vx_model.specs.Refusals.{validity_length}
use Rattle.vx_model.specs.Rows.{valid_rows}
use Rattle.vx_rows.proofs.TruthLemmas.{both-long}
use Rattle.vx_rows.proofs.comparing.columns.with_both_valid.Goals as goal

pub new-requires : goal.new-requires
new-requires c =
    let n = length c.args.bits in
    ap (λ valid. validity_length valid n) c.in_ok-valid.ensures ∙ both-long c.args.left.now c.args.right.now n n n c.requires.left c.requires.right refl refl

pub returns : goal.returns
returns c = c.new.ensures ∙ ap (λ valid. valid_rows valid (map truth c.args.bits)) c.in_ok-valid.ensures
