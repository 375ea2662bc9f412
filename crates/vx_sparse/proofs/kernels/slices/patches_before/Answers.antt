use Rattle.std.proofs.Common.{◌≡◌, ◌+◌, ap, arith}
use Rattle.vx_model.specs.Rows.{rows}
use Rattle.vx_model.specs.WellFormed.{indices_below}
use Rattle.vx_model.proofs.ChunkLemmas.{below-most}
use Rattle.vx_sparse.specs.Slices.{patches_before}
use Rattle.vx_sparse.proofs.kernels.slices.patches_before.Goals as goal

pub loop-low-init : goal.loop-low-init
loop-low-init c =
    let p = c.args.patches.now in
    let most = below-most p.offset (p.offset + p.array_len) c.row_index-bound.result (rows p.indices) c.known.ensures.2.ascending in
    record { behind = omega arith; before = omega (arith, most, c.num_patches-high.ensures); within = omega (arith, c.num_patches-high.ensures) }

pub loop-low-preserved : goal.loop-low-preserved
loop-low-preserved c = record {
  behind = c.narrowed-from.ensures.behind c.loop-low.invariant.behind;
  before = c.narrowed-from.ensures.before c.loop-low.invariant.before;
  within = omega (arith, c.narrowed-from.ensures.within, c.loop-low.invariant.within);
}

pub returns-clause-count : goal.returns-clause-count
returns-clause-count c =
    let is = rows c.args.patches.now.indices in
    let own : indices_below c.row_index-bound.result is ≡ patches_before c.args.patches.now c.args.row = ap (λ b. indices_below b is) c.row_index-bound.ensures in
    omega (arith, own, c.loop-low.invariant.behind, c.loop-low.invariant.before, c.loop-low-test.false)

pub returns-clause-most : goal.returns-clause-most
returns-clause-most c = let same = c.known.ensures.2.lengths in omega (arith, same, c.loop-low.invariant.within, c.loop-low.invariant.before, c.loop-low.invariant.behind, c.loop-low-test.false)
