use Rattle.std.proofs.Common.{◌≡◌, ◌∙◌, ap, sym}
use Rattle.vx_base.specs.PlainType as types
use Rattle.vx_base.specs.TypeOf.{type_of}
use Rattle.vx_model.specs.Column.{column_of}
use Rattle.vx_model.specs.TreeType.{tree_type}
use Rattle.vx_model.proofs.MadeLemmas.{rows_fit}
use Rattle.vx_values.proofs.Types.{type_of-Timestamp}
use Rattle.vx_schemes_time.proofs.PartTrees.{three-admitted}
use Rattle.vx_schemes_time.proofs.temporal.parts.joined.Goals as goal

pub over_parts-requires : goal.over_parts-requires
over_parts-requires c =
    let t = c.args.array.now in
    let k = c.in-Timestamp.kind in
    let n = c.in-Timestamp.nullability in
    let typed : tree_type t ≡ types.timestamp k n = sym c.dtype.ensures ∙ ap type_of c.in-Timestamp.is ∙ type_of-Timestamp k n in
    three-admitted (column_of t) k n c.args.trees c.in-Some.days c.in-Some.seconds c.in-Some.subseconds typed c.requires.timestamps (rows_fit t c.known.ensures) (sym c.in-Some.is ∙ c.triple_of.ensures) c.requires.trees
