use Rattle.std.proofs.Common.{◌∙◌, ap, length, map}
use Rattle.std.specs.Int.{w128}
use Rattle.std.proofs.lemmas.Int.{to_z-of_z}
use Rattle.std.proofs.lemmas.List.{length-map}
use Rattle.vx_base.specs.PlainValue.{truth}
use Rattle.vx_model.specs.Refusals.{validity_length}
use Rattle.vx_model.specs.Rows.{valid_rows}
use Rattle.vx_values.specs.IntsOf.{wholes_of}
use Rattle.vx_rows.specs.Pairs.{whole_within}
use Rattle.vx_rows.proofs.ranging.columns.within_wholes.Goals as goal

pub new-requires : goal.new-requires
new-requires c = (λ i. validity_length (c.in_ok-valid.ensures i) (length (c.in_ok-bits.ensures i))) ∙ ap (validity_length c.args.valid.now) (length-map (wholes_of c.args.values.now) _) ∙ c.requires

pub returns : goal.returns
returns c =
    let a = to_z-of_z w128 c.args.low c.ranges.low in
    let b = to_z-of_z w128 c.args.high c.ranges.high in
    c.new.ensures ∙ (λ i. valid_rows (c.in_ok-valid.ensures i) (map truth (c.in_ok-bits.ensures i)))
    ∙ (λ i. valid_rows c.args.valid.now (map truth (map (whole_within c.args.options (a i) (b i)) (wholes_of c.args.values.now))))
