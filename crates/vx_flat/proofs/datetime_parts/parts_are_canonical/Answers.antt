use Rattle.std.proofs.Common.{◌≡◌, ◌∙◌, ◌<◌, length, sym, ap, below_more, false, arith}
use Rattle.std.specs.Int.{w64}
use Rattle.std.proofs.lemmas.Int.{to_z-of_z}
use Rattle.vx_values.specs.IntsOf.{wholes_of}
use Rattle.vx_flat.specs.CanonicalRows.{is_canonical_row}
use Rattle.vx_flat.proofs.PartRows.{rows_canonical, row_fails}
use Rattle.vx_flat.proofs.datetime_parts.parts_are_canonical.Goals as goal

pub returns-then-not-is_canonical_row : goal.returns-then-not-is_canonical_row
returns-then-not-is_canonical_row c =
    let days = wholes_of c.args.days.now in
    let seconds = wholes_of c.args.seconds.now in
    let subseconds = wholes_of c.args.subseconds.now in
    let row = c.loop-row.row in
    let below : row < length days = omega arith in
    let fails : is_canonical_row c.args.divisor days c.args.valid.now seconds subseconds row ≡ false =
    ap (λ d. is_canonical_row d days c.args.valid.now seconds subseconds row) (sym (to_z-of_z w64 c.args.divisor c.ranges.divisor)) ∙ sym c.is_canonical_row.ensures ∙ c.if-not-is_canonical_row.true
    in
    λ ds ss us e v f h. sym (row_fails c.args.divisor days c.args.valid.now seconds subseconds ds ss us e v f h c.requires.seconds c.requires.subseconds row below fails)

pub loop-row-preserved : goal.loop-row-preserved
loop-row-preserved c = below_more _ _ c.loop-row.invariant (sym c.is_canonical_row.ensures ∙ c.if-not-is_canonical_row.false)

pub returns : goal.returns
returns c =
    let days = wholes_of c.args.days.now in
    let seconds = wholes_of c.args.seconds.now in
    let subseconds = wholes_of c.args.subseconds.now in
    λ ds ss us e v f h. sym (rows_canonical c.args.divisor days c.args.valid.now seconds subseconds ds ss us e v f h c.requires.seconds c.requires.subseconds (λ i l.
    ap (λ d. is_canonical_row d days c.args.valid.now seconds subseconds i) (sym (to_z-of_z w64 c.args.divisor c.ranges.divisor)) ∙ c.loop-row.invariant i (omega arith)))
