use Rattle.std.proofs.Common.{◌∙◌, sym}
use Rattle.vx_base.proofs.MakesLemmas.{MakesSurely_ok}
use Rattle.vx_sparse_array.proofs.TryNew.{fill-admitted, made-over, refused-over, unrefused}
use Rattle.vx_sparse_array.proofs.encode.Sparse.try_new.Goals as goal

pub over_patches-requires : goal.over_patches-requires
over_patches-requires c =
    fill-admitted c.args.len c.args.indices c.args.values c.args.fill_value (sym c.are_of_type.ensures ∙ c.if-not-are_of_type.false) c.in-Ok.patches (MakesSurely_ok _ _ _ _ c.in-Ok.ensures)

pub returns-in-Ok : goal.returns-in-Ok
returns-in-Ok c =
    made-over c.args.len c.args.indices c.args.values c.args.fill_value (sym c.are_of_type.ensures ∙ c.if-not-are_of_type.false) c.in-Ok.patches c.over_patches.result (MakesSurely_ok _ _ _ _ c.in-Ok.ensures) (unrefused _ _ _ _ c.in-Ok.ensures) c.over_patches.ensures

pub returns-in-Err : goal.returns-in-Err
returns-in-Err c = refused-over c.args.len c.args.indices c.args.values c.args.fill_value (sym c.are_of_type.ensures ∙ c.if-not-are_of_type.false) _ c.in-Err.refused c.in-Err.ensures
