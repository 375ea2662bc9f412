use Rattle.std.proofs.Common.{◌∙◌, ap, map}
use Rattle.std.specs.Int.{w64}
use Rattle.std.proofs.lemmas.Int.{to_z-of_z}
use Rattle.std.proofs.lemmas.Result.{MatchResult-weaker}
use Rattle.vx_base.specs.PlainType.{nullability_of, or_nullable}
use Rattle.vx_base.specs.PlainType as types
use Rattle.vx_base.specs.PlainValue.{int}
use Rattle.vx_model.specs.Column.{column}
use Rattle.vx_model.specs.Rows.{rows}
use Rattle.vx_model.specs.Tree.{datetime_parts}
use Rattle.vx_model.specs.TreeType.{tree_type}
use Rattle.vx_rules.specs.Comparisons.{compared}
use Rattle.vx_time.proofs.Held.{fits-I64}
use Rattle.vx_datetime.proofs.SameColumns.{compared-same}
use Rattle.vx_datetime.proofs.StampTypes.{stamp-flat}
use Rattle.vx_datetime.proofs.kernels.compared.compared_with.Goals as goal

pub same_timestamp-requires : goal.same_timestamp-requires
same_timestamp-requires c = stamp-flat (tree_type c.args.array.now) (tree_type c.args.other.now) c.args.parts.now.kind.now c.args.parts.now.nullability (ap tree_type c.requires.tree) c.requires.base

pub returns-clause-answer : goal.returns-clause-answer
returns-clause-answer c =
    let p = c.args.parts.now in
    let t = c.in-Some.timestamp in
    let m = c.nullability-nullability.result in
    let vs = rows (datetime_parts p.kind.now p.nullability p.days.now p.seconds.now p.subseconds.now) in
    let back = to_z-of_z w64 t (fits-I64 t c.in-Some.ensures.1) in
    MatchResult-weaker c.compared_with_timestamp.result c.compared_with_timestamp.ensures
    (λ out is. is ∙ ap (λ z. column (types.boolean (or_nullable p.nullability m)) (map (λ v. compared c.args.operator v (int z)) vs)) back
    ∙ compared-same p.kind.now p.nullability p.days.now p.seconds.now p.subseconds.now c.args.array.now c.requires.tree c.args.operator c.args.other.now t m c.requires.lengths c.in-Some.ensures.0 (c.nullability-nullability.ensures ∙ ap nullability_of c.dtype.ensures)) (λ e is. is)
