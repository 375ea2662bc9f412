use Rattle.std.proofs.Common.{◌≡◌, ◌∙◌, ◌-◌, length, sym, ap, arith, false}
use Rattle.std.specs.Int.{w64}
use Rattle.std.proofs.lemmas.Int.{to_z-of_z}
use Rattle.vx_model.specs.Rows.{rows}
use Rattle.vx_model.specs.WellFormed.{is_canonical_at}
use Rattle.vx_array.proofs.LinearParts.{canonical-fails, canonical-none, canonical-nulls}
use Rattle.vx_array.proofs.node.linear_parts.linear_are_canonical.Goals as goal
use Rattle.vx_array.proofs.node.linear_parts.linear_are_canonical.Goals.{then-len-eq0-via-then-len-eq0, then-len-eq0-via-else-len-eq0+then-is_null_at}

pub returns-then-len-eq0 : goal.returns-then-len-eq0
returns-then-len-eq0 c =
    let days = rows c.args.days.now in
    let seconds = rows c.args.seconds.now in
    let subseconds = rows c.args.subseconds.now in
    elim c.then-len-eq0.branch [
      | then-len-eq0-via-then-len-eq0 w ↦
          (let none : length days ≡ 0 = sym c.len-len.ensures ∙ w.if-len-eq0.true in
          sym (canonical-none c.args.divisor days seconds subseconds none))
      | then-len-eq0-via-else-len-eq0+then-is_null_at w ↦
          sym (canonical-nulls c.args.divisor days seconds subseconds c.requires.linear_days c.requires.linear_seconds c.requires.linear_subseconds c.requires.seconds_length c.requires.subseconds_length
          (omega (arith, c.len-len.ensures, w.if-len-eq0.false)) (sym w.is_null_at.ensures ∙ w.if-is_null_at.true))
    ]

pub returns-then-not-is_canonical_row : goal.returns-then-not-is_canonical_row
returns-then-not-is_canonical_row c =
    let days = rows c.args.days.now in
    let seconds = rows c.args.seconds.now in
    let subseconds = rows c.args.subseconds.now in
    let fails : is_canonical_at c.args.divisor days seconds subseconds 0 ≡ false =
    ap (λ d. is_canonical_at d days seconds subseconds 0) (sym (to_z-of_z w64 c.args.divisor c.ranges.divisor)) ∙ sym c.is_canonical_row.ensures ∙ c.if-not-is_canonical_row.true
    in
    sym (canonical-fails c.args.divisor days seconds subseconds 0 (omega (arith, c.len-len.ensures, c.if-len-eq0.false)) fails)

pub returns-then-not-is_canonical_row-2 : goal.returns-then-not-is_canonical_row-2
returns-then-not-is_canonical_row-2 c =
    let days = rows c.args.days.now in
    let seconds = rows c.args.seconds.now in
    let subseconds = rows c.args.subseconds.now in
    let last = c.len-len.result - 1 in
    let fails : is_canonical_at c.args.divisor days seconds subseconds last ≡ false =
    ap (λ d. is_canonical_at d days seconds subseconds last) (sym (to_z-of_z w64 c.args.divisor c.ranges.divisor)) ∙ sym c.is_canonical_row-2.ensures ∙ c.if-not-is_canonical_row-2.true
    in
    sym (canonical-fails c.args.divisor days seconds subseconds last (omega (arith, c.len-len.ensures, c.if-len-eq0.false)) fails)
