use Rattle.std.proofs.Common.{◌∙◌, refl}
use Rattle.vx_base.proofs.MakesLemmas.{MakesSurely_err}
use Rattle.vx_compressor.proofs.OneValueTrees.{nulls_nullable}
use Rattle.vx_compressor.proofs.constant.null_tree.Goals as goal

pub unreachable-requires : goal.unreachable-requires
unreachable-requires c =
    let same = c.in_ok-dtype.ensures ∙ c.dtype.ensures in
    MakesSurely_err _ _ _ _ (rw (same, nulls_nullable c.args.plain.now c.known.ensures c.requires.rows c.requires.nulls) refl) c.in-Err.ensures
