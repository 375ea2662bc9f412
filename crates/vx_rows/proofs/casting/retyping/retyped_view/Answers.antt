use Rattle.std.proofs.Common.{◌∙◌, ap}
use Rattle.vx_base.specs.TypeOf.{type_of}
use Rattle.vx_model.specs.Column.{column_of}
use Rattle.vx_model.specs.Refusals.{kept, var_bin_view_refusal}
use Rattle.vx_model.specs.Tree.{var_bin_view}
use Rattle.vx_rows.proofs.RetypeLemmas.{view-accepted, view-made}
use Rattle.vx_rows.proofs.casting.retyping.retyped_view.Goals as goal

pub var_bin_view_of-requires : goal.var_bin_view_of-requires
var_bin_view_of-requires c =
    (λ i. var_bin_view_refusal (c.in_ok-items.ensures i) (c.in_ok-bits.ensures i) (c.in_ok-kind.ensures i))
    ∙ view-accepted c.args.values.now c.args.valid.now (type_of c.args.own.now) (type_of c.args.dtype.now) c.requires.well c.requires.bytes c.requires.fit

pub returns : goal.returns
returns c =
    ap column_of c.var_bin_view_of.ensures
    ∙ (λ i. column_of (var_bin_view (c.in_ok-items.ensures i) (kept (c.in_ok-bits.ensures i)) (c.in_ok-kind.ensures i)))
    ∙ view-made c.args.values.now c.args.valid.now (type_of c.args.own.now) (type_of c.args.dtype.now) c.requires.well c.requires.bytes c.requires.fit
