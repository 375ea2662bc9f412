use Rattle.std.proofs.Common.{◌≡◌, ◌∙◌, ◌<◌, ◌-◌, length, sym, ap, arith, true}
use Rattle.std.specs.Prelude.{◌&&◌}
use Rattle.vx_model.specs.Rows.{rows, row_at}
use Rattle.vx_model.specs.WellFormed.{is_place}
use Rattle.vx_array.proofs.LinearRows.{all-failed, places-linear, places-none}
use Rattle.vx_array.proofs.array.ArrayRef.ends_are_places.Goals as goal

pub returns-then-len-eq0 : goal.returns-then-len-eq0
returns-then-len-eq0 c = sym (places-none c.args.values (rows c.args.self.now) (sym c.len-len.ensures ∙ c.if-len-eq0.true))

pub returns-then-is_place : goal.returns-then-is_place
returns-then-is_place c =
    let vs = rows c.args.self.now in
    let test = is_place c.args.values in
    let some : 0 < length vs = omega (arith, c.len-len.ensures, c.if-len-eq0.false) in
    let first : test (row_at vs 0) ≡ true = ap test (sym c.integer_at.ensures) ∙ sym c.is_place.ensures ∙ c.if-is_place.true in
    c.is_place-then-is_place.ensures ∙ ap test c.integer_at-then-is_place.ensures ∙ ap (λ n. test (row_at vs (n - 1))) c.len-len.ensures
    ∙ sym (places-linear c.args.values vs c.requires.linear some ∙ ap (λ b. b && test (row_at vs (length vs - 1))) first)

pub returns-else-is_place : goal.returns-else-is_place
returns-else-is_place c =
    let vs = rows c.args.self.now in
    let test = is_place c.args.values in
    c.if-is_place.false ∙ sym (all-failed test vs 0 (omega (arith, c.len-len.ensures, c.if-len-eq0.false)) (ap test (sym c.integer_at.ensures) ∙ sym c.is_place.ensures ∙ c.if-is_place.false))
