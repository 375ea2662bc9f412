use Rattle.std.proofs.Common.{◌≡◌, ◌∙◌, sym, ap, subst, None}
use Rattle.vx_base.specs.TypeOf.{type_of}
use Rattle.vx_datetime.specs.Parts.{parts_tree, split_tree}
use Rattle.vx_model.specs.Column.{column, column_of}
use Rattle.vx_temporal.specs.Joined.{joined, parts_refusal}
use Rattle.vx_temporal.specs.Split.{divisor_in, split_refusal, type_refusal}
use Rattle.vx_temporal.specs.SplitOf.{IsSplitOf}
use Rattle.vx_datetime.proofs.PartsTrees.{column_of-parts_tree, parts_tree-split, same-err, made-of, rows-kept}
use Rattle.vx_datetime.proofs.making.DateTimeParts.try_from_temporal.Goals as goal

pub over_parts-requires : goal.over_parts-requires
over_parts-requires c =
    let p = c.in-Ok.parts in
    subst (λ t. parts_refusal t p.days p.seconds p.subseconds ≡ None) (sym c.dtype.ensures) c.in-Ok.ensures.accepted

pub returns-in-Ok-clause-answer : goal.returns-in-Ok-clause-answer
returns-in-Ok-clause-answer c =
    let own = column_of c.args.temporal.now in
    let p = c.in-Ok.parts in
    made-of (type_refusal own.dtype) (split_refusal own) (IsSplitOf own) p c.over_parts.result _ (split_tree own) c.in-Ok.ensures.answer
    (λ s. ap (λ t. parts_tree t p.days p.seconds p.subseconds) c.dtype.ensures ∙ parts_tree-split own p s) c.over_parts.ensures

pub returns-in-Ok-clause-kept : goal.returns-in-Ok-clause-kept
returns-in-Ok-clause-kept c =
    let own = column_of c.args.temporal.now in
    let p = c.in-Ok.parts in
    let t = type_of c.dtype.result.now in
    let accepted = subst (λ s. parts_refusal s p.days p.seconds p.subseconds ≡ None) (sym c.dtype.ensures) c.in-Ok.ensures.accepted in
    rows-kept c.over_parts.result (parts_tree t p.days p.seconds p.subseconds) own c.over_parts.ensures
    (column_of-parts_tree t p.days p.seconds p.subseconds accepted ∙ (λ i. column (c.dtype.ensures i) (joined (divisor_in (c.dtype.ensures i)) p.days p.seconds p.subseconds)) ∙ ap (column own.dtype) c.in-Ok.ensures.kept)

pub returns-in-Err-clause-answer : goal.returns-in-Err-clause-answer
returns-in-Err-clause-answer c =
    let own = column_of c.args.temporal.now in
    same-err (type_refusal own.dtype) (split_refusal own) (IsSplitOf own) (λ y. y ≡ split_tree own) c.in-Err.error c.in-Err.ensures.answer
