use Rattle.std.proofs.Common.{◌<◌, ◌∙◌, ap, sym, map, length, arith}
use Rattle.std.specs.Prelude.{slice_set, slice_index_or, false}
use Rattle.std.proofs.lemmas.List.{length-map}
use Rattle.vx_model.proofs.ZeroLemmas.{zeroed-next, kept_at}
use Rattle.vx_rows.proofs.kernels.fills.write_beneath.Goals as goal

pub loop-row-preserved : goal.loop-row-preserved
loop-row-preserved g c =
    let wholes = map g.T.Integer.whole c.args.items.now in
    let fill = g.T.Integer.whole c.args.fill in
    let bits = c.args.mask.now in
    let row = c.loop-row.row in
    let within : row < length wholes = omega (arith, length-map c.args.items.now g.T.Integer.whole) in
    c.fill_at.ensures ∙ ap (λ ys. slice_set ys row (kept_at fill ys row (slice_index_or bits row false))) c.loop-row.invariant ∙ sym (zeroed-next fill bits wholes row (omega arith) within)
