use Rattle.std.proofs.Common.{◌∙◌, ◌<◌, ◌-◌, length, sym, ap, arith}
use Rattle.std.specs.Prelude.{int_le}
use Rattle.vx_base.specs.PlainValue.{whole_or_zero}
use Rattle.vx_model.specs.Rows.{rows, row_at}
use Rattle.vx_array.proofs.LinearRows.{never_falls-linear, never_falls-none}
use Rattle.vx_array.proofs.node.offsets.ends_never_fall.Goals as goal

pub returns-then-len-eq0 : goal.returns-then-len-eq0
returns-then-len-eq0 c = sym (never_falls-none (rows c.args.offsets.now) (sym c.len-len.ensures ∙ c.if-len-eq0.true))

pub returns : goal.returns
returns c =
    let vs = rows c.args.offsets.now in
    let some : 0 < length vs = omega (arith, c.len-len.ensures, c.if-len-eq0.false) in
    c.is_first_at_most.ensures ∙ ap (λ n. int_le (whole_or_zero (row_at vs 0)) (whole_or_zero (row_at vs (n - 1)))) c.len-len.ensures ∙ sym (never_falls-linear vs c.requires.linear some)
