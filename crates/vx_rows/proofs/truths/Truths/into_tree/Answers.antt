use Rattle.std.proofs.Common.{◌∙◌, ap}
use Rattle.std.specs.List.{list_all}
use Rattle.vx_base.specs.PlainScalar.{fits}
use Rattle.vx_base.specs.PlainType as types
use Rattle.vx_model.specs.Column.{column, column_of}
use Rattle.vx_rows.proofs.TruthLemmas.{truths-admitted, truths-made}
use Rattle.vx_rows.proofs.truths.Truths.into_tree.Goals as goal

pub bool_of-requires : goal.bool_of-requires
bool_of-requires c =
    let a = c.self.inside in
    truths-admitted a.values a.valid c.args.nullability c.self.invariant (ap (list_all (fits (types.boolean c.args.nullability))) c.self.view_is ∙ c.requires)

pub returns : goal.returns
returns c =
    let a = c.self.inside in
    ap column_of c.bool_of.ensures ∙ truths-made a.values a.valid c.args.nullability c.self.invariant ∙ ap (column (types.boolean c.args.nullability)) c.self.view_is
