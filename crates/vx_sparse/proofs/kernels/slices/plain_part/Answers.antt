use Rattle.std.proofs.Common.{◌≡◌, ◌∙◌, ◌++◌, [], ◌∷◌, length, map, sym, ap, subst, arith}
use Rattle.std.specs.List.{list_all}
use Rattle.std.proofs.lemmas.List.{map-append}
use Rattle.vx_base.specs.Answers.{Answers}
use Rattle.vx_base.specs.Masks.{rows_between}
use Rattle.vx_base.specs.PlainScalar.{fits}
use Rattle.vx_base.specs.TypeOf.{value_of}
use Rattle.vx_model.specs.Plain.{plain_of}
use Rattle.vx_model.specs.Rows.{rows}
use Rattle.vx_sparse.proofs.SlicedRows.{fit-part, in_part, part-more}
use Rattle.vx_sparse.proofs.kernels.slices.plain_part.Goals as goal

pub loop-row-preserved : goal.loop-row-preserved
loop-row-preserved c =
    let all = rows c.args.tree.now in
    let start = c.args.start in
    let row = c.loop-row.row in
    let own = value_of c.in_ok-value_at.field-0 in
    ap (map value_of) c.in_ok-push.ensures.items ∙ map-append value_of c.loop-row.values.items (c.in_ok-value_at.field-0 ∷ []) ∙ ap (λ vs. vs ++ own ∷ []) c.loop-row.invariant
    ∙ ap (λ v. rows_between all start row ++ v ∷ []) c.in_ok-value_at.ensures ∙ sym (part-more all start row (omega arith) (omega (arith, c.requires.within)))

pub stored_part-requires-clause-part : goal.stored_part-requires-clause-part
stored_part-requires-clause-part c = in_part (length (rows c.args.tree.now)) c.args.start c.args.end c.requires.order c.requires.within

pub of_values-requires : goal.of_values-requires
of_values-requires c =
    let t = c.args.tree.now in
    let end : c.loop-row.row ≡ c.args.end = omega (arith, c.requires.order) in
    let all : map value_of c.loop-row.values.items ≡ rows_between (rows t) c.args.start c.args.end = c.loop-row.invariant ∙ ap (rows_between (rows t) c.args.start) end in
    (λ i. list_all (fits (c.dtype.ensures i)) (all i)) ∙ fit-part t c.known.ensures c.args.start c.args.end

pub returns : goal.returns
returns c =
    let t = c.args.tree.now in
    let end : c.loop-row.row ≡ c.args.end = omega (arith, c.requires.order) in
    let all : map value_of c.loop-row.values.items ≡ rows_between (rows t) c.args.start c.args.end = c.loop-row.invariant ∙ ap (rows_between (rows t) c.args.start) end in
    subst (Answers c.of_values.result) (λ i. plain_of (c.dtype.ensures i) (all i)) c.of_values.ensures.tree
