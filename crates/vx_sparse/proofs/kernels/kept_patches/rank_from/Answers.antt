use Rattle.std.proofs.Common.{◌≡◌, arith}
use Rattle.vx_base.specs.Masks.{rows_between, true_count}
use Rattle.vx_sparse.proofs.MaskRanks.{rank-between}
use Rattle.vx_sparse.proofs.kernels.kept_patches.rank_from.Goals as goal

pub returns : goal.returns
returns c =
    let keep = c.args.keep.now in
    let whole = rank-between keep c.args.from c.args.row c.requires.order in
    let more : c.trues-more.result ≡ true_count (rows_between keep c.args.from c.args.row) = c.trues-more.ensures in
    omega (arith, whole, more, c.requires.count)
