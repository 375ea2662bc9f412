use Rattle.std.proofs.Common.{◌<◌, ◌∙◌, ap, arith, length, subst, sym}
use Rattle.std.specs.List.{list_all}
use Rattle.std.specs.Prelude.{IfSome}
use Rattle.vx_base.specs.CellValue.{cell_value}
use Rattle.vx_base.specs.PlainType.{is_flat}
use Rattle.vx_model.specs.Column.{column_of}
use Rattle.vx_model.specs.Rows.{row_at, rows}
use Rattle.vx_model.specs.Tree.{dict}
use Rattle.vx_model.specs.TreeType.{tree_type}
use Rattle.vx_model.specs.WellFormed.{WellFormed, is_place}
use Rattle.vx_rules.specs.Aggregates.{is_constant}
use Rattle.vx_rows.specs.Used.{IsUsed, named_by}
use Rattle.vx_rows.proofs.ConstantLemmas.{equal-none}
use Rattle.vx_rows.proofs.ExtremeLemmas.{same-answer}
use Rattle.vx_rows.proofs.NamedLemmas.{dict-flat, named-constant, named-long}
use Rattle.vx_rows.proofs.constancy.dict_is_constant.Goals as goal

pub returns-then-len-eq0 : goal.returns-then-len-eq0
returns-then-len-eq0 c = equal-none (rows c.args.array.now) (omega (arith, c.len.ensures))

pub used_by-requires-clause-integers : goal.used_by-requires-clause-integers
used_by-requires-clause-integers c =
    let well = subst WellFormed c.requires c.known.ensures in
    well.2.codes_type

pub used_by-requires-clause-places : goal.used_by-requires-clause-places
used_by-requires-clause-places c =
    let well = subst WellFormed c.requires c.known.ensures in
    ap (λ n. list_all (is_place n) (rows c.args.codes.now)) c.len-2.ensures ∙ well.2.places

pub cell_at-requires-clause-flat : goal.cell_at-requires-clause-flat
cell_at-requires-clause-flat c =
    let well = subst WellFormed c.requires c.known.ensures in
    ap (λ t. is_flat (tree_type t)) c.requires ∙ dict-flat c.args.codes.now c.args.values.now well

pub cell_at-requires-clause-in_range : goal.cell_at-requires-clause-in_range
cell_at-requires-clause-in_range c = omega (arith, c.len.ensures)

pub used_are-requires-clause-flat : goal.used_are-requires-clause-flat
used_are-requires-clause-flat c =
    let well = subst WellFormed c.requires c.known.ensures in
    well.2.values_type

pub used_are-requires-clause-long : goal.used_are-requires-clause-long
used_are-requires-clause-long c =
    let well = subst WellFormed c.requires c.known.ensures in
    let codes = rows c.args.codes.now in
    let used = subst (λ o. IfSome o (IsUsed c.len-2.result codes)) c.in-Some.is c.in_ok-found.ensures in
    named-long c.args.codes.now c.args.values.now well c.in-Some.used.named (used.named ∙ ap (λ n. named_by n codes) c.len-2.ensures)

pub returns-in-Some : goal.returns-in-Some
returns-in-Some c =
    let well = subst WellFormed c.requires c.known.ensures in
    let codes = rows c.args.codes.now in
    let used = subst (λ o. IfSome o (IsUsed c.len-2.result codes)) c.in-Some.is c.in_ok-found.ensures in
    let first = c.cell_at.ensures ∙ ap (λ t. row_at (rows t) 0) c.requires in
    let some : 0 < length (rows (dict c.args.codes.now c.args.values.now)) = omega (arith, c.len.ensures, ap (λ t. length (rows t)) c.requires) in
    let answer = named-constant c.args.codes.now c.args.values.now well c.in-Some.used.named (used.named ∙ ap (λ n. named_by n codes) c.len-2.ensures)
    c.in-Some.used.nulls used.nulls (cell_value c.cell_at.result) first some in
    same-answer c.used_are.result _ _ (answer ∙ sym (ap (λ t. is_constant (column_of t)) c.requires)) c.used_are.ensures

pub flat_is_constant-requires : goal.flat_is_constant-requires
flat_is_constant-requires c =
    let well = subst WellFormed c.requires c.known.ensures in
    ap (λ t. is_flat (tree_type t)) c.requires ∙ dict-flat c.args.codes.now c.args.values.now well
