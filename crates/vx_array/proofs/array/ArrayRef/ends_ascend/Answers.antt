use Rattle.std.proofs.Common.{◌∙◌, ◌<◌, ◌+◌, ◌-◌, length, sym, ap, arith}
use Rattle.std.specs.Prelude.{◌&&◌, ◌||◌, ◌==◌, int_lt}
use Rattle.vx_base.specs.PlainValue.{whole_or_zero}
use Rattle.vx_model.specs.Rows.{rows, row_at}
use Rattle.vx_model.specs.WellFormed.{lies_between}
use Rattle.vx_array.proofs.LinearRows.{ascend-linear, ascend-empty}
use Rattle.vx_array.proofs.array.ArrayRef.ends_ascend.Goals as goal

pub returns-then-rows-eq0 : goal.returns-then-rows-eq0
returns-then-rows-eq0 c = sym (ascend-empty c.args.offset (c.args.offset + c.args.len) (rows c.args.self.now) (sym c.len-rows.ensures ∙ c.if-rows-eq0.true))

pub returns : goal.returns
returns c =
    let vs = rows c.args.self.now in
    let test = lies_between c.args.offset (c.args.offset + c.args.len) in
    let some : 0 < length vs = omega (arith, c.len-rows.ensures, c.if-rows-eq0.false) in
    let a = c.lies_between-first.ensures ∙ ap test c.integer_at.ensures in
    let b = c.lies_between-last.ensures ∙ ap test c.integer_at-2.ensures ∙ ap (λ n. test (row_at vs (n - 1))) c.len-rows.ensures in
    let r = c.is_first_below.ensures ∙ ap (λ n. int_lt (whole_or_zero (row_at vs 0)) (whole_or_zero (row_at vs (n - 1)))) c.len-rows.ensures in
    let n = c.len-rows.ensures in
    (λ i. (a i && b i) && ((n i == 1) || r i)) ∙ sym (ascend-linear c.args.offset (c.args.offset + c.args.len) vs c.requires.linear some)
