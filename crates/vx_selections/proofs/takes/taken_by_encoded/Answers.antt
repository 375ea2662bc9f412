use Rattle.std.proofs.Common.{◌≡◌, ◌∙◌, ap, length, subst}
use Rattle.std.specs.Prelude.{if◌then◌else◌}
use Rattle.std.specs.List.{list_all}
use Rattle.vx_base.specs.declared.error.VortexError.TheVariants.{OutOfBounds}
use Rattle.vx_base.specs.Answers.{Decided}
use Rattle.vx_base.specs.PlainType.{is_integer}
use Rattle.vx_model.specs.Column.{column_of}
use Rattle.vx_model.specs.Rows.{rows}
use Rattle.vx_model.specs.WellFormed.{is_place}
use Rattle.vx_rules.specs.Selections.{taken}
use Rattle.vx_selections.specs.Chosen.{place_refusal}
use Rattle.vx_selections.proofs.Deciding.{decided-wanting}
use Rattle.vx_selections.proofs.takes.taken_by_encoded.Goals as goal

pub taken_by_plain-requires-clause-integers : goal.taken_by_plain-requires-clause-integers
taken_by_plain-requires-clause-integers c = ap (λ k. is_integer k.dtype) c.in-Ok.ensures.kept ∙ c.requires

pub returns-in-Ok : goal.returns-in-Ok
returns-in-Ok c =
    let tree = c.args.tree.now in
    subst (λ k. Decided (place_refusal (length (rows tree)) k.values) (λ out. column_of out ≡ taken (column_of tree) k) c.taken_by_plain.result) c.in-Ok.ensures.kept c.taken_by_plain.ensures

pub returns-in-Err : goal.returns-in-Err
returns-in-Err c =
    let tree = c.args.tree.now in
    let indices = c.args.indices.now in
    let refusal = c.refusal_without.ensures ∙ ap (λ n. if list_all (is_place n) (rows indices) then c.in-Err.error else OutOfBounds) c.len.ensures in
    decided-wanting (λ out. column_of out ≡ taken (column_of tree) (column_of indices)) (list_all (is_place (length (rows tree))) (rows indices)) c.in-Err.error c.refusal_without.result c.in-Err.ensures.tree refusal
