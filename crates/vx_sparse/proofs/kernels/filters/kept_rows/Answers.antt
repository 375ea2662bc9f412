use Rattle.std.proofs.Common.{◌≡◌, ◌∙◌, ap, arith}
use Rattle.vx_base.specs.Masks.{true_count}
use Rattle.vx_model.specs.Column.{column_of}
use Rattle.vx_model.specs.Rows.{rows}
use Rattle.vx_model.specs.Tree.{constant, sparse_of}
use Rattle.vx_rules.specs.Selections.{filtered}
use Rattle.vx_sparse.specs.Filters.{kept_bits}
use Rattle.vx_sparse.proofs.FilteredRows.{filtered-fill}
use Rattle.vx_sparse.proofs.KernelTypes.{or_memory-more}
use Rattle.vx_sparse.proofs.kernels.filters.kept_rows.Goals as goal

pub returns-then-count-eq0-clause-answer : goal.returns-then-count-eq0-clause-answer
returns-then-count-eq0-clause-answer c =
    let p = c.args.patches.now in
    let fill = c.args.fill.now in
    let keep = c.args.keep.now in
    let own : true_count c.in_ok-bits.bits ≡ true_count (kept_bits keep p.offset (rows p.indices)) = ap true_count c.in_ok-bits.ensures in
    let none : true_count (kept_bits keep p.offset (rows p.indices)) ≡ 0 = omega (arith, own, c.true_count-count.ensures, c.if-count-eq0.true) in
    or_memory-more (λ out. out ≡ constant fill c.true_count-len.result) (λ out. column_of out ≡ filtered (column_of (sparse_of p fill)) keep) c.constant.result
    (λ out e. ap column_of e ∙ ap (λ n. column_of (constant fill n)) c.true_count-len.ensures ∙ filtered-fill p fill keep c.known.ensures c.requires.bits c.requires.typed none) c.constant.ensures
