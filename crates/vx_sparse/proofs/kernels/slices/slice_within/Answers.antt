use Rattle.std.proofs.Common.{◌∙◌, sym, subst, arith}
use Rattle.vx_base.specs.Answers.{Answers}
use Rattle.vx_sparse.specs.Slices.{cut_tree, plain_part}
use Rattle.vx_sparse.proofs.SlicedRows.{part-order, sliced-cut, sliced-fill, sliced-values}
use Rattle.vx_sparse.proofs.kernels.slices.slice_within.Goals as goal

pub overflow_sub-len : goal.overflow_sub-len
overflow_sub-len c = (part-order c.args.patches.now.array_len c.args.start c.args.end c.requires.part).0

pub returns-then-high-low : goal.returns-then-high-low
returns-then-high-low c =
    let p = c.args.patches.now in
    let fill = c.args.fill.now in
    let none = sliced-fill p fill c.args.start c.args.end (omega (arith, c.patches_before-low.ensures.count, c.patches_before-high.ensures.count, c.if-high-low.true)) in
    subst (Answers c.constant.result) (sym none) c.constant.ensures

pub returns-then-many-len : goal.returns-then-many-len
returns-then-many-len c =
    let p = c.args.patches.now in
    let fill = c.args.fill.now in
    let low = c.patches_before-low.ensures.count in
    let high = c.patches_before-high.ensures.count in
    let all = sliced-values p fill c.args.start c.args.end (omega (arith, low, high, c.if-high-low.false)) (omega (arith, low, high, c.if-many-len.true)) in
    subst (Answers c.plain_part.result) ((λ i. plain_part (c.values.ensures i) (low i) (high i)) ∙ sym all) c.plain_part.ensures

pub returns : goal.returns
returns c =
    let p = c.args.patches.now in
    let fill = c.args.fill.now in
    let low = c.patches_before-low.ensures.count in
    let high = c.patches_before-high.ensures.count in
    let some = sliced-cut p fill c.args.start c.args.end (omega (arith, low, high, c.if-high-low.false)) (λ e. c.if-many-len.false (omega (arith, low, high, e))) in
    subst (Answers c.cut.result) ((λ i. cut_tree p fill c.args.start c.args.end (low i) (high i)) ∙ sym some) c.cut.ensures
