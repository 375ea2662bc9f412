use Rattle.std.proofs.Common.{◌≡◌, ◌∙◌, ◌<◌, length, sym, ap, below_more, false, arith}
use Rattle.std.specs.Int.{w64}
use Rattle.std.proofs.lemmas.Int.{to_z-of_z}
use Rattle.vx_model.specs.Rows.{rows}
use Rattle.vx_model.specs.WellFormed.{is_canonical_at}
use Rattle.vx_flat.proofs.PartRows.{range_passes, range_fails}
use Rattle.vx_array.proofs.node.parts_rows.rows_are_canonical.Goals as goal

pub returns-then-not-is_canonical_row : goal.returns-then-not-is_canonical_row
returns-then-not-is_canonical_row c =
    let days = rows c.args.days.now in
    let seconds = rows c.args.seconds.now in
    let subseconds = rows c.args.subseconds.now in
    let row = c.loop-row.row in
    let within : row < length days = omega (arith, c.loop-row-test.true, c.len-row-end.ensures) in
    let fails : is_canonical_at c.args.divisor days seconds subseconds row ≡ false =
    ap (λ d. is_canonical_at d days seconds subseconds row) (sym (to_z-of_z w64 c.args.divisor c.ranges.divisor)) ∙ sym c.is_canonical_row.ensures ∙ c.if-not-is_canonical_row.true
    in
    sym (range_fails (is_canonical_at c.args.divisor days seconds subseconds) (length days) row within fails)

pub loop-row-preserved : goal.loop-row-preserved
loop-row-preserved c = below_more _ _ c.loop-row.invariant (sym c.is_canonical_row.ensures ∙ c.if-not-is_canonical_row.false)

pub returns : goal.returns
returns c =
    let days = rows c.args.days.now in
    let seconds = rows c.args.seconds.now in
    let subseconds = rows c.args.subseconds.now in
    sym (range_passes (is_canonical_at c.args.divisor days seconds subseconds) 0 (length days) (λ i l.
    ap (λ d. is_canonical_at d days seconds subseconds i) (sym (to_z-of_z w64 c.args.divisor c.ranges.divisor)) ∙ c.loop-row.invariant i (omega (arith, c.loop-row-test.false, c.len-row-end.ensures))))
