use Rattle.std.proofs.Common.{◌<◌, ◌∙◌, ◌+◌, ◌-◌, length, sym, ap, subst, arith}
use Rattle.vx_base.specs.Answers.{Answers}
use Rattle.vx_model.specs.Refusals.{patches_refusal}
use Rattle.vx_model.specs.Rows.{rows}
use Rattle.vx_model.specs.Tree.{patches, sparse, sparse_of}
use Rattle.vx_model.specs.TreeType.{tree_type}
use Rattle.vx_sparse.specs.Slices.{patches_before, plain_part}
use Rattle.vx_sparse.proofs.SlicedRows.{before-most, cut-accepted, part-order, raised-below, type-plain_part}
use Rattle.vx_sparse.proofs.kernels.slices.cut.Goals as goal

pub overflow_sub-len : goal.overflow_sub-len
overflow_sub-len c = (part-order c.args.patches.now.array_len c.args.start c.args.end c.requires.part).0

pub plain_part-requires-clause-within : goal.plain_part-requires-clause-within
plain_part-requires-clause-within c =
    let most = before-most c.args.patches.now c.known.ensures c.args.end in
    let same = ap (λ t. length (rows t)) c.indices.ensures in
    omega (arith, most, same, c.requires.high)

pub plain_part-requires-2-clause-within : goal.plain_part-requires-2-clause-within
plain_part-requires-2-clause-within c =
    let most = before-most c.args.patches.now c.known.ensures c.args.end in
    let same = ap (λ t. length (rows t)) c.values.ensures in
    let lengths = c.known.ensures.2.lengths in
    omega (arith, most, same, lengths, c.requires.high)

pub overflow_add-raised : goal.overflow_add-raised
overflow_add-raised c =
    let p = c.args.patches.now in
    let order = part-order p.array_len c.args.start c.args.end c.requires.part in
    let some : patches_before p c.args.start < patches_before p c.args.end = omega (arith, c.requires.low, c.requires.high, c.requires.some) in
    let below = raised-below p c.known.ensures c.args.start c.args.end order.0 order.1 some in
    omega (arith, below, c.offset.ensures)

pub of_rising-within-requires : goal.of_rising-within-requires
of_rising-within-requires c =
    let p = c.args.patches.now in
    let order = part-order p.array_len c.args.start c.args.end c.requires.part in
    let low = c.requires.low in
    let high = c.requires.high in
    let indices = c.in_ok-indices.ensures ∙ (λ i. plain_part (c.indices.ensures i) (low i) (high i)) in
    let values = c.in_ok-values.ensures ∙ (λ i. plain_part (c.values.ensures i) (low i) (high i)) in
    (λ i. patches_refusal (patches (c.args.end - c.args.start) (c.offset.ensures i + c.args.start) (indices i) (values i))) ∙ cut-accepted p c.known.ensures c.args.start c.args.end order.0 order.1

pub sparse_tree-requires : goal.sparse_tree-requires
sparse_tree-requires c =
    let p = c.args.patches.now in
    ap (λ q. tree_type q.values) c.of_rising-within.ensures ∙ ap tree_type c.in_ok-values.ensures ∙ (λ i. tree_type (plain_part (c.values.ensures i) c.args.low c.args.high))
    ∙ type-plain_part p.values c.known.ensures.1 c.args.low c.args.high ∙ c.requires.typed ∙ ap (λ s. s.dtype) (sym c.in_ok-own.ensures)

pub returns : goal.returns
returns c =
    let indices = c.in_ok-indices.ensures ∙ (λ i. plain_part (c.indices.ensures i) c.args.low c.args.high) in
    let values = c.in_ok-values.ensures ∙ (λ i. plain_part (c.values.ensures i) c.args.low c.args.high) in
    subst (Answers c.sparse_tree.result)
    ((λ i. sparse_of (c.of_rising-within.ensures i) c.in_ok-own.own) ∙ (λ i. sparse (c.args.end - c.args.start) (c.offset.ensures i + c.args.start) (indices i) (values i) (c.in_ok-own.ensures i))) c.sparse_tree.ensures
