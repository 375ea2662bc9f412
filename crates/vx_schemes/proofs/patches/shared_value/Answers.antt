use Rattle.std.proofs.Common.{◌≡◌, ◌<◌, ◌∙◌, length, sym, ap, arith, option_map}
use Rattle.std.specs.Prelude.{is_some}
use Rattle.std.specs.List.{list_any}
use Rattle.vx_base.specs.PlainValue.{is_null}
use Rattle.vx_model.specs.Rows.{rows, row_at}
use Rattle.vx_model.proofs.OneValueLemmas.{first_valid-position}
use Rattle.vx_schemes.proofs.PatchLemmas.{bits-some, first_at, shared-first, shared-mixed, shared-nulls}
use Rattle.vx_schemes.proofs.patches.shared_value.Goals as goal

pub returns-in_default : goal.returns-in_default
returns-in_default c =
    let vs = rows c.args.plain.now in
    let some : 0 < length vs = omega arith in
    sym (shared-nulls vs some (first_valid-position vs ∙ ap (option_map (row_at vs)) (sym c.in_default.ensures)))

pub returns-then-is_some : goal.returns-then-is_some
returns-then-is_some c =
    let vs = rows c.args.plain.now in
    let some : c.is_some.result ≡ list_any is_null vs = c.is_some.ensures ∙ ap is_some c.validity.ensures ∙ bits-some vs in
    sym (shared-mixed vs (row_at vs c.in-Some.row) (sym some ∙ c.if-is_some.true) (first_at vs c.in-Some.row c.in-Some.ensures).first)

pub repeated-requires : goal.repeated-requires
repeated-requires c =
    let at = first_at (rows c.args.plain.now) c.in-Some.row c.in-Some.ensures in
    record { plain = c.requires.plain; flat = c.requires.flat; in_range = at.within; value = at.valid }

pub returns : goal.returns
returns c =
    let vs = rows c.args.plain.now in
    let some : c.is_some.result ≡ list_any is_null vs = c.is_some.ensures ∙ ap is_some c.validity.ensures ∙ bits-some vs in
    c.repeated.ensures ∙ shared-first vs (row_at vs c.in-Some.row) (sym some ∙ c.if-is_some.false) (first_at vs c.in-Some.row c.in-Some.ensures).first
