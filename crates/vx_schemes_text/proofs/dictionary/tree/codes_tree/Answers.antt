use Rattle.std.proofs.Common.{◌≡◌, ◌∙◌, ap, arith}
use Rattle.vx_base.specs.PlainType.{nullability_of}
use Rattle.vx_model.specs.Column.{column_of}
use Rattle.vx_model.specs.Rows.{rows}
use Rattle.vx_model.specs.TreeType.{tree_type}
use Rattle.vx_model.proofs.MadeLemmas.{rows_fit}
use Rattle.vx_schemes_text.specs.Dictionary.Distinct.{few-appearing}
use Rattle.vx_schemes_text.proofs.CodeParts.{codes-admitted, codes-places, codes-plain}
use Rattle.vx_schemes_text.proofs.dictionary.tree.codes_tree.Goals as goal

pub narrowed-requires-clause-few : goal.narrowed-requires-clause-few
narrowed-requires-clause-few c = omega (arith, few-appearing (rows c.args.array.now), c.requires.count, c.requires.few)

pub narrowed-requires-clause-places : goal.narrowed-requires-clause-places
narrowed-requires-clause-places c = codes-places (rows c.args.array.now) c.args.codes c.args.count c.requires.count c.requires.some c.requires.codes

pub primitive_of-requires : goal.primitive_of-requires
primitive_of-requires c =
    let t = c.args.array.now in
    let typed : c.nullability.result ≡ nullability_of (tree_type t) = c.nullability.ensures ∙ ap nullability_of c.dtype.ensures in
    codes-admitted (column_of t) c.args.codes _ _ c.args.count c.requires.codes c.in_ok-codes.ensures.codes (c.in_ok-valid.ensures ∙ c.views_of.ensures.valid) _ typed (rows_fit t c.known.ensures)

pub returns : goal.returns
returns c =
    let t = c.args.array.now in
    let typed : c.nullability.result ≡ nullability_of (tree_type t) = c.nullability.ensures ∙ ap nullability_of c.dtype.ensures in
    c.primitive_of.ensures ∙ codes-plain (column_of t) c.args.codes _ _ c.args.count c.requires.codes c.in_ok-codes.ensures.codes (c.in_ok-valid.ensures ∙ c.views_of.ensures.valid) _ _ typed c.in_ok-codes.ensures.ptype c.requires.count
