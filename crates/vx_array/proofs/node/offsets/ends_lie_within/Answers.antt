use Rattle.std.proofs.Common.{◌≡◌, ◌∙◌, ◌<◌, ◌+◌, ◌-◌, length, sym, ap, arith, true}
use Rattle.std.specs.Prelude.{◌&&◌}
use Rattle.vx_model.specs.Rows.{rows, row_at}
use Rattle.vx_model.specs.WellFormed.{lies_between}
use Rattle.vx_array.proofs.LinearRows.{all-failed, lies-linear, lies_nowhere}
use Rattle.vx_array.proofs.node.offsets.ends_lie_within.Goals as goal

pub returns-then-len-eq0 : goal.returns-then-len-eq0
returns-then-len-eq0 c = sym (lies_nowhere 0 (c.args.items + 1) (rows c.args.offsets.now) (sym c.len-len.ensures ∙ c.if-len-eq0.true))

pub returns-then-lies_within : goal.returns-then-lies_within
returns-then-lies_within c =
    let vs = rows c.args.offsets.now in
    let test = lies_between 0 (c.args.items + 1) in
    let some : 0 < length vs = omega (arith, c.len-len.ensures, c.if-len-eq0.false) in
    let first : test (row_at vs 0) ≡ true = ap test (sym c.integer_at.ensures) ∙ sym c.lies_within.ensures ∙ c.if-lies_within.true in
    c.lies_within-then-lies_within.ensures ∙ ap test c.integer_at-then-lies_within.ensures ∙ ap (λ n. test (row_at vs (n - 1))) c.len-len.ensures
    ∙ sym (lies-linear 0 (c.args.items + 1) vs c.requires.linear some ∙ ap (λ b. b && test (row_at vs (length vs - 1))) first)

pub returns-else-lies_within : goal.returns-else-lies_within
returns-else-lies_within c =
    let vs = rows c.args.offsets.now in
    let test = lies_between 0 (c.args.items + 1) in
    c.if-lies_within.false ∙ sym (all-failed test vs 0 (omega (arith, c.len-len.ensures, c.if-len-eq0.false)) (ap test (sym c.integer_at.ensures) ∙ sym c.lies_within.ensures ∙ c.if-lies_within.false))
