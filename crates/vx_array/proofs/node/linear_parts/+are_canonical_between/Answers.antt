use Rattle.std.proofs.Common.{◌≡◌, ◌∙◌, ◌+◌, ◌-◌, ◌/◌, ℕ, sym, ap, arith, true, false}
use Rattle.std.specs.Int.{w64}
use Rattle.std.specs.Prelude.{◌&&◌}
use Rattle.std.proofs.lemmas.Int.{to_z-of_z}
use Rattle.vx_model.specs.Rows.{rows}
use Rattle.vx_model.specs.WellFormed.{is_canonical_at}
use Rattle.vx_array.specs.Linear.{are_canonical_between}
use Rattle.vx_array.proofs.LinearParts.{between-keeps}
use Rattle.vx_array.proofs.Ranges.{one-fails, two-halves, two-pass}
use Rattle.vx_array.proofs.node.linear_parts.+are_canonical_between.Goals as goal
use Rattle.vx_array.proofs.node.linear_parts.+are_canonical_between.Goals.{then-last-first-le1-via-then-last-first-le1, then-last-first-le1-via-else-last-first-le1+then-keep_sign}

pub returns-then-last-first-le1 : goal.returns-then-last-first-le1
returns-then-last-first-le1 t c =
    let days = rows c.args.days.now in
    let seconds = rows c.args.seconds.now in
    let subseconds = rows c.args.subseconds.now in
    elim c.then-last-first-le1.branch [
      | then-last-first-le1-via-then-last-first-le1 w ↦
          sym (two-pass (is_canonical_at c.args.divisor days seconds subseconds) c.args.first c.args.last c.requires.in_order w.if-last-first-le1.true c.requires.first_row c.requires.last_row)
      | then-last-first-le1-via-else-last-first-le1+then-keep_sign w ↦
          sym (between-keeps c.args.divisor days seconds subseconds c.requires.linear_days c.requires.linear_seconds c.requires.linear_subseconds c.requires.seconds_length c.requires.subseconds_length c.args.first c.args.last
          c.requires.in_order c.requires.in_days c.requires.first_row c.requires.last_row (sym w.keep_sign.ensures ∙ w.if-keep_sign.true))
    ]

pub returns-then-not-is_canonical_row : goal.returns-then-not-is_canonical_row
returns-then-not-is_canonical_row t c =
    let days = rows c.args.days.now in
    let seconds = rows c.args.seconds.now in
    let subseconds = rows c.args.subseconds.now in
    let middle : ℕ = c.args.first + (c.args.last - c.args.first) / 2 in
    let fails : is_canonical_at c.args.divisor days seconds subseconds middle ≡ false =
    ap (λ d. is_canonical_at d days seconds subseconds middle) (sym (to_z-of_z w64 c.args.divisor c.ranges.divisor)) ∙ sym c.is_canonical_row.ensures ∙ c.if-not-is_canonical_row.true
    in
    sym (one-fails (is_canonical_at c.args.divisor days seconds subseconds) c.args.first c.args.last middle (omega arith) (omega (arith, c.requires.in_order)) fails)

pub returns-then-are_canonical_between : goal.returns-then-are_canonical_between
returns-then-are_canonical_between t c =
    let days = rows c.args.days.now in
    let seconds = rows c.args.seconds.now in
    let subseconds = rows c.args.subseconds.now in
    let middle : ℕ = c.args.first + (c.args.last - c.args.first) / 2 in
    let same = to_z-of_z w64 c.args.divisor c.ranges.divisor in
    let half : are_canonical_between c.args.divisor days seconds subseconds c.args.first middle ≡ true =
    ap (λ d. are_canonical_between d days seconds subseconds c.args.first middle) (sym same) ∙ sym c.are_canonical_between.ensures ∙ c.if-are_canonical_between.true
    in
    c.are_canonical_between-then-are_canonical_between.ensures ∙ ap (λ d. are_canonical_between d days seconds subseconds middle c.args.last) same
    ∙ sym (two-halves (is_canonical_at c.args.divisor days seconds subseconds) c.args.first middle c.args.last (omega arith) (omega (arith, c.requires.in_order))
    ∙ ap (λ b. b && are_canonical_between c.args.divisor days seconds subseconds middle c.args.last) half)

pub returns-else-are_canonical_between : goal.returns-else-are_canonical_between
returns-else-are_canonical_between t c =
    let days = rows c.args.days.now in
    let seconds = rows c.args.seconds.now in
    let subseconds = rows c.args.subseconds.now in
    let middle : ℕ = c.args.first + (c.args.last - c.args.first) / 2 in
    let half : are_canonical_between c.args.divisor days seconds subseconds c.args.first middle ≡ false =
    ap (λ d. are_canonical_between d days seconds subseconds c.args.first middle) (sym (to_z-of_z w64 c.args.divisor c.ranges.divisor)) ∙ sym c.are_canonical_between.ensures ∙ c.if-are_canonical_between.false
    in
    c.if-are_canonical_between.false
    ∙ sym (two-halves (is_canonical_at c.args.divisor days seconds subseconds) c.args.first middle c.args.last (omega arith) (omega (arith, c.requires.in_order))
    ∙ ap (λ b. b && are_canonical_between c.args.divisor days seconds subseconds middle c.args.last) half)
