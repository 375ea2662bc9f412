use Rattle.std.proofs.Common.{◌∙◌, [], map, ap, refl}
use Rattle.vx_base.specs.PlainValue as plain
use Rattle.vx_base.specs.PlainValue.{int}
use Rattle.vx_model.specs.Decoded.{zeroed_by}
use Rattle.vx_model.specs.Rows.{cut_at}
use Rattle.vx_values.specs.IntsOf.{wholes_of}
use Rattle.vx_flat.proofs.var_bin.decoded_var_bin.Goals as goal

pub returns : goal.returns
returns c =
    let os = map int (wholes_of c.args.offsets.now) in
    let cut = c.in_ok-rows.ensures ∙ ap (λ bytes. zeroed_by [] c.args.valid.now (cut_at os bytes)) c.as_slice.ensures in
    (refl, ap (map plain.bytes) cut, c.in_ok-valid.ensures)
