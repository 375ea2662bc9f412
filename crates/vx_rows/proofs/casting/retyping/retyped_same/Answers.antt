use Rattle.std.proofs.Common.{◌∙◌, ap}
use Rattle.std.specs.Prelude.{replicate}
use Rattle.vx_base.specs.PlainScalar.{fits}
use Rattle.vx_base.specs.TypeOf.{type_of}
use Rattle.vx_model.specs.Column.{column, column_of}
use Rattle.vx_model.specs.Tree.{constant}
use Rattle.vx_rows.proofs.RetypeLemmas.{first-fits}
use Rattle.vx_rows.proofs.casting.retyping.retyped_same.Goals as goal

pub of_cell-requires : goal.of_cell-requires
of_cell-requires c = ap (fits (type_of c.args.dtype.now)) c.cell.ensures ∙ first-fits (type_of c.args.dtype.now) c.args.value.now.value c.args.len c.requires.some c.requires.fit

pub returns : goal.returns
returns c =
    ap column_of c.constant.ensures
    ∙ (λ i. column_of (constant (c.in_ok-scalar.ensures i) c.args.len))
    ∙ ap (λ v. column (type_of c.args.dtype.now) (replicate c.args.len v)) c.cell.ensures
