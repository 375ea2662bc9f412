use Rattle.std.proofs.Common.{◌≡◌, ◌∙◌, length, map, sym, ap}
use Rattle.vx_model.specs.Column.{column_of}
use Rattle.vx_model.specs.Refusals.{patches_refusal}
use Rattle.vx_model.specs.Rows.{rows}
use Rattle.vx_model.specs.Tree.{patches, sparse, sparse_of}
use Rattle.vx_rules.specs.Selections.{filtered}
use Rattle.vx_sparse.specs.Filters.{kept_rank}
use Rattle.vx_sparse.proofs.KeptTrees.{kept-accepted, kept-column, kept-type, numbers-length, values-length}
use Rattle.vx_sparse.proofs.KernelTypes.{or_memory-more}
use Rattle.vx_sparse.proofs.kernels.filters.kept_patches.Goals as goal

pub patch_ranks-requires : goal.patch_ranks-requires
patch_ranks-requires c = ap length c.as_slice.ensures ∙ c.requires.rows

pub kept-requires : goal.kept-requires
kept-requires c =
    let p = c.args.patches.now in
    let keep = c.args.keep.now in
    let ranks = c.in_ok-ranks.ensures ∙ ap (λ k. map (kept_rank k p.offset) (rows p.indices)) c.as_slice.ensures in
    numbers-length p c.args.fill.now keep c.known.ensures c.requires.rows c.args.bits.now c.requires.bits c.index_tree-numbers.result c.in_ok-ranks.ranks.items c.index_tree-numbers.ensures ranks

pub kept-requires-2 : goal.kept-requires-2
kept-requires-2 c =
    let p = c.args.patches.now in
    let keep = c.args.keep.now in
    let ranks = c.in_ok-ranks.ensures ∙ ap (λ k. map (kept_rank k p.offset) (rows p.indices)) c.as_slice.ensures in
    values-length p c.args.fill.now keep c.known.ensures c.requires.rows c.args.bits.now c.requires.bits c.index_tree-numbers.result c.in_ok-ranks.ranks.items c.index_tree-numbers.ensures ranks
    ∙ ap (λ t. length (rows t)) (sym c.values.ensures)

pub over_kept-requires-clause-accepted : goal.over_kept-requires-clause-accepted
over_kept-requires-clause-accepted c =
    let p = c.args.patches.now in
    let keep = c.args.keep.now in
    let ranks = c.in_ok-ranks.ensures ∙ ap (λ k. map (kept_rank k p.offset) (rows p.indices)) c.as_slice.ensures in
    let values = c.in_ok-values.ensures.answer ∙ ap (λ t. filtered (column_of t) c.args.bits.now) c.values.ensures in
    ap (λ n. patches_refusal (patches n 0 c.in_ok-indices.indices c.in_ok-values.values)) c.true_count-len.ensures
    ∙ kept-accepted p c.args.fill.now keep c.known.ensures c.requires.rows c.args.bits.now c.requires.bits c.index_tree-numbers.result c.in_ok-ranks.ranks.items c.index_tree-numbers.ensures ranks
    c.in_ok-indices.indices c.in_ok-values.values c.in_ok-indices.ensures.answer values

pub over_kept-requires-clause-typed : goal.over_kept-requires-clause-typed
over_kept-requires-clause-typed c =
    let p = c.args.patches.now in
    let keep = c.args.keep.now in
    let ranks = c.in_ok-ranks.ensures ∙ ap (λ k. map (kept_rank k p.offset) (rows p.indices)) c.as_slice.ensures in
    let values = c.in_ok-values.ensures.answer ∙ ap (λ t. filtered (column_of t) c.args.bits.now) c.values.ensures in
    kept-type p c.args.fill.now keep c.known.ensures c.requires.rows c.args.bits.now c.requires.bits c.index_tree-numbers.result c.in_ok-ranks.ranks.items c.index_tree-numbers.ensures ranks
    c.in_ok-indices.indices c.in_ok-values.values c.in_ok-indices.ensures.answer values c.requires.typed

pub returns-clause-answer : goal.returns-clause-answer
returns-clause-answer c =
    let p = c.args.patches.now in
    let fill = c.args.fill.now in
    let keep = c.args.keep.now in
    let ranks = c.in_ok-ranks.ensures ∙ ap (λ k. map (kept_rank k p.offset) (rows p.indices)) c.as_slice.ensures in
    let values = c.in_ok-values.ensures.answer ∙ ap (λ t. filtered (column_of t) c.args.bits.now) c.values.ensures in
    let whole =
    ap (λ n. column_of (sparse n 0 c.in_ok-indices.indices c.in_ok-values.values fill)) c.true_count-len.ensures
    ∙ kept-column p fill keep c.known.ensures c.requires.rows c.args.bits.now c.requires.bits c.index_tree-numbers.result c.in_ok-ranks.ranks.items c.index_tree-numbers.ensures ranks
    c.in_ok-indices.indices c.in_ok-values.values c.in_ok-indices.ensures.answer values in
    or_memory-more (λ out. out ≡ sparse c.true_count-len.result 0 c.in_ok-indices.indices c.in_ok-values.values fill) (λ out. column_of out ≡ filtered (column_of (sparse_of p fill)) keep) c.over_kept.result
    (λ out e. ap column_of e ∙ whole) c.over_kept.ensures
