use Rattle.std.proofs.Common.{◌≡◌, ◌+◌, ◌∙◌, ap, length, take, arith}
use Rattle.std.proofs.lemmas.List.{length-append}
use Rattle.vx_model.proofs.JoinedLemmas.{concatenated-next}
use Rattle.vx_model.specs.Nested.{concatenated}
use Rattle.vx_values.proofs.byte_rows.joining.byte_count.Goals as goal

pub loop-row-preserved : goal.loop-row-preserved
loop-row-preserved c =
    let rows = c.args.rows.now in
    let row = c.row-item.result in
    let before = concatenated (take c.loop-row.row-index rows) in
    let next : length (concatenated (take (c.loop-row.row-index + 1) rows)) ≡ length before + length row =
    ap length (concatenated-next rows c.loop-row.row-index row (omega arith) c.row-item.is) ∙ length-append before row in
    let own = ap length c.as_slice.ensures in
    omega (arith, c.loop-row.invariant, c.saturating_add-count.ensures, next, own)
