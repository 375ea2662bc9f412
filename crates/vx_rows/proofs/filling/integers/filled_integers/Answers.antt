use Rattle.std.proofs.Common.{◌∙◌, ap, map, sym}
use Rattle.std.specs.Int.{w128}
use Rattle.std.proofs.lemmas.Int.{to_z-of_z}
use Rattle.vx_base.specs.Defaults.{or_default}
use Rattle.vx_base.specs.PlainValue.{int}
use Rattle.vx_model.specs.Column.{column}
use Rattle.vx_model.specs.Decoded.{zeroed_by}
use Rattle.vx_model.specs.Rows.{valid_rows}
use Rattle.vx_values.specs.IntsOf.{wholes_of}
use Rattle.vx_values.specs.ValuesOf.{ints, kind_of}
use Rattle.vx_rows.proofs.ConvertLemmas.{filled-rows}
use Rattle.vx_rows.proofs.FillLemmas.{answer-along}
use Rattle.vx_rows.proofs.filling.integers.filled_integers.Goals as goal

pub typed_integers-requires : goal.typed_integers-requires
typed_integers-requires c = ap kind_of c.dtype.ensures ∙ c.requires.kind ∙ ap ints (sym c.in_ok-filled.ensures.0)

pub returns : goal.returns
returns c =
    let zs = wholes_of c.args.values.now in
    let valid = c.args.valid.now in
    let filled =
    ap (map int) c.in_ok-filled.ensures.1
    ∙ ap (λ z. map int (zeroed_by z valid zs)) (to_z-of_z w128 c.integer_of-whole.result (record { sfits = c.integer_of-whole.type_inv }))
    ∙ sym (filled-rows c.integer_of-whole.result valid zs c.requires.whole)
    ∙ ap (λ v. map (or_default v) (valid_rows valid (map int zs))) c.integer_of-whole.ensures.value in
    answer-along c.typed_integers.result _ _ (λ i. column (c.dtype.ensures i) (filled i)) c.typed_integers.ensures
