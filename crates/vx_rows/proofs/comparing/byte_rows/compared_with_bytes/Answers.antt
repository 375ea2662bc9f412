use Rattle.std.proofs.Common.{◌∙◌, ap, length, map}
use Rattle.std.proofs.lemmas.List.{length-map}
use Rattle.vx_base.specs.PlainValue.{truth}
use Rattle.vx_model.specs.Refusals.{validity_length}
use Rattle.vx_model.specs.Rows.{valid_rows}
use Rattle.vx_rows.proofs.comparing.byte_rows.compared_with_bytes.Goals as goal

pub new-requires : goal.new-requires
new-requires c = (λ i. validity_length (c.in_ok-valid.ensures i) (length (c.in_ok-bits.ensures i))) ∙ ap (validity_length c.args.valid.now) (length-map c.args.rows.now _) ∙ c.requires

pub returns : goal.returns
returns c = c.new.ensures ∙ (λ i. valid_rows (c.in_ok-valid.ensures i) (map truth (c.in_ok-bits.ensures i)))
