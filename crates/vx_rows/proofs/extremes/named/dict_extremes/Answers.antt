use Rattle.std.proofs.Common.{◌∙◌, ap, subst, sym}
use Rattle.std.specs.List.{list_all}
use Rattle.std.specs.Prelude.{IfSome}
use Rattle.vx_base.specs.PlainScalar.{fits}
use Rattle.vx_base.specs.PlainType.{is_flat}
use Rattle.vx_model.specs.Column.{column, column_of}
use Rattle.vx_model.specs.Rows.{rows}
use Rattle.vx_model.specs.TreeType.{tree_type}
use Rattle.vx_model.specs.WellFormed.{WellFormed, is_place}
use Rattle.vx_rules.specs.Aggregates.{min_max}
use Rattle.vx_rows.specs.Extremes.{valid_items}
use Rattle.vx_rows.specs.Used.{IsUsed, named_by}
use Rattle.vx_rows.proofs.ExtremeLemmas.{same-answer}
use Rattle.vx_rows.proofs.NamedLemmas.{named-fit, named-long, named-min_max}
use Rattle.vx_rows.proofs.extremes.named.dict_extremes.Goals as goal

pub used_by-requires-clause-integers : goal.used_by-requires-clause-integers
used_by-requires-clause-integers c =
    let well = subst WellFormed c.requires.dict c.known.ensures in
    well.2.codes_type

pub used_by-requires-clause-places : goal.used_by-requires-clause-places
used_by-requires-clause-places c =
    let well = subst WellFormed c.requires.dict c.known.ensures in
    ap (λ n. list_all (is_place n) (rows c.args.codes.now)) c.len.ensures ∙ well.2.places

pub named_scalars-requires-clause-flat : goal.named_scalars-requires-clause-flat
named_scalars-requires-clause-flat c =
    let well = subst WellFormed c.requires.dict c.known.ensures in
    well.2.values_type

pub named_scalars-requires-clause-long : goal.named_scalars-requires-clause-long
named_scalars-requires-clause-long c =
    let well = subst WellFormed c.requires.dict c.known.ensures in
    let codes = rows c.args.codes.now in
    let used = subst (λ o. IfSome o (IsUsed c.len.result codes)) c.in-Some.is c.in_ok-found.ensures in
    named-long c.args.codes.now c.args.values.now well c.in-Some.used.named (used.named ∙ ap (λ n. named_by n codes) c.len.ensures)

pub named_scalars-requires-clause-fit : goal.named_scalars-requires-clause-fit
named_scalars-requires-clause-fit c =
    let well = subst WellFormed c.requires.dict c.known.ensures in
    let codes = rows c.args.codes.now in
    let used = subst (λ o. IfSome o (IsUsed c.len.result codes)) c.in-Some.is c.in_ok-found.ensures in
    ap (λ t. list_all (fits t) (valid_items c.in-Some.used.named (rows c.args.values.now))) (c.dtype.ensures ∙ ap tree_type c.requires.dict)
    ∙ named-fit c.args.codes.now c.args.values.now well c.in-Some.used.named (used.named ∙ ap (λ n. named_by n codes) c.len.ensures)

pub returns-in-Some : goal.returns-in-Some
returns-in-Some c =
    let well = subst WellFormed c.requires.dict c.known.ensures in
    let codes = rows c.args.codes.now in
    let used = subst (λ o. IfSome o (IsUsed c.len.result codes)) c.in-Some.is c.in_ok-found.ensures in
    let answer = named-min_max c.args.codes.now c.args.values.now well c.in-Some.used.named (used.named ∙ ap (λ n. named_by n codes) c.len.ensures)
    (ap (λ t. is_flat (tree_type t)) (sym c.requires.dict) ∙ c.requires.flat) in
    let typed = ap (λ t. min_max (column t (valid_items c.in-Some.used.named (rows c.args.values.now)))) (c.dtype.ensures ∙ ap tree_type c.requires.dict) in
    same-answer c.named_scalars.result _ _ (typed ∙ answer ∙ sym (ap (λ t. min_max (column_of t)) c.requires.dict)) c.named_scalars.ensures
