use Rattle.std.proofs.Common.{◌≤◌, ◌∷◌, ◌++◌, ◌∙◌, [], append_assoc, arith, ap, length, map, sym}
use Rattle.std.specs.Prelude.{nat_le}
use Rattle.std.proofs.lemmas.Bool.{and_parts, leb-true}
use Rattle.std.proofs.lemmas.List.{map-append}
use Rattle.vx_base.specs.Masks.{rows_between}
use Rattle.vx_base.specs.TypeOf.{value_of}
use Rattle.vx_model.specs.Rows.{rows}
use Rattle.vx_array.proofs.ValueAt.{between_next}
use Rattle.vx_array.proofs.array.ArrayRef.add_rows.Goals as goal

pub loop-row-preserved : goal.loop-row-preserved
loop-row-preserved c =
    let all = rows c.args.self.now in
    let before = map value_of c.args.values.now.items in
    let start = c.args.start in
    let end = c.args.end in
    let row = c.loop-row.row in
    let own = value_of c.in_ok-value_at.field-0 in
    let part = and_parts (nat_le start end) (nat_le end (length all)) c.requires in
    let rising : start ≤ end = leb-true start end part.0 in
    let within : end ≤ length all = leb-true end (length all) part.1 in
    ap (map value_of) c.in_ok-push.ensures.items ∙ map-append value_of c.loop-row.values.items (c.in_ok-value_at.field-0 ∷ []) ∙ ap (λ vs. vs ++ own ∷ []) c.loop-row.invariant
    ∙ append_assoc before (rows_between all start row) (own ∷ []) ∙ ap (λ vs. before ++ vs) (sym (between_next all start row own (omega arith) (omega arith) c.in_ok-value_at.ensures))
