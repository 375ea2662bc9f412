use Rattle.std.proofs.Common.{◌∙◌, ap, length, map, sym}
use Rattle.std.specs.List.{list_all}
use Rattle.std.proofs.lemmas.Result.{MatchResult-weaker}
use Rattle.vx_base.specs.Defaults.{null_or_default}
use Rattle.vx_base.specs.PlainType.{nullability_of, or_nullable}
use Rattle.vx_base.specs.PlainValue.{int}
use Rattle.vx_model.specs.Column.{column, column_of}
use Rattle.vx_model.specs.Rows.{rows, valid_rows}
use Rattle.vx_model.specs.TreeType.{tree_type}
use Rattle.vx_model.specs.WellFormed.{is_place}
use Rattle.vx_pieces.specs.Pieces.{are_pieces, pieced}
use Rattle.vx_values.specs.IntsOf.{ptype_of, wholes_of}
use Rattle.vx_selections.proofs.IndexPieces.{indexed_restricts, indexed_taken}
use Rattle.vx_selections.proofs.Validities.{own-allowed, own-length}
use Rattle.vx_selections.proofs.takes.pieces.taken_by_pieces.Goals as goal

pub index_pieces-requires-clause-bits : goal.index_pieces-requires-clause-bits
index_pieces-requires-clause-bits c = own-length c.args.valid.now (length (wholes_of c.args.codes.now)) c.args.nulls c.requires.well.0.validity

pub index_pieces-requires-clause-places : goal.index_pieces-requires-clause-places
index_pieces-requires-clause-places c = ap (λ n. list_all (is_place n) (valid_rows c.args.valid.now (map int (wholes_of c.args.codes.now)))) c.len.ensures ∙ c.requires.places

pub pieced-requires : goal.pieced-requires
pieced-requires c =
    let t = c.args.tree.now in
    ap (are_pieces (length (rows t))) c.as_slice.ensures.value ∙ (c.in_ok-pieces.ensures (null_or_default (tree_type t)) (rows t) (sym c.len.ensures)).within

pub restricted-requires-clause-bits : goal.restricted-requires-clause-bits
restricted-requires-clause-bits c =
    let t = c.args.tree.now in
    let valid = c.args.valid.now in
    let zs = wholes_of c.args.codes.now in
    let item = null_or_default (tree_type t) in
    let long = own-length valid (length zs) c.args.nulls c.requires.well.0.validity in
    let allowed = own-allowed valid (length zs) c.args.nulls c.requires.well.0.validity in
    let gives = (c.in_ok-pieces.ensures item (rows t) (sym c.len.ensures)).gives in
    let made = c.in_ok-plain.ensures.rows ∙ ap (column (tree_type t)) (ap (λ ps. pieced item ps (rows t)) c.as_slice.ensures.value ∙ gives) in
    let wide = c.or.ensures ∙ ap (λ n. or_nullable n c.args.nulls) (c.nullability.ensures ∙ ap nullability_of c.dtype.ensures) in
    indexed_restricts (tree_type t) (rows t) valid (ptype_of c.args.codes.now) zs c.args.nulls long allowed c.requires.places (column_of c.in_ok-plain.plain) c.or.result made wide

pub returns : goal.returns
returns c =
    let t = c.args.tree.now in
    let valid = c.args.valid.now in
    let zs = wholes_of c.args.codes.now in
    let item = null_or_default (tree_type t) in
    let long = own-length valid (length zs) c.args.nulls c.requires.well.0.validity in
    let allowed = own-allowed valid (length zs) c.args.nulls c.requires.well.0.validity in
    let gives = (c.in_ok-pieces.ensures item (rows t) (sym c.len.ensures)).gives in
    let made = c.in_ok-plain.ensures.rows ∙ ap (column (tree_type t)) (ap (λ ps. pieced item ps (rows t)) c.as_slice.ensures.value ∙ gives) in
    let wide = c.or.ensures ∙ ap (λ n. or_nullable n c.args.nulls) (c.nullability.ensures ∙ ap nullability_of c.dtype.ensures) in
    let is = indexed_taken (tree_type t) (rows t) valid (ptype_of c.args.codes.now) zs c.args.nulls long allowed c.requires.places (column_of c.in_ok-plain.plain) c.or.result made wide in
    MatchResult-weaker c.restricted.result c.restricted.ensures (λ out e. e ∙ is) (λ e is. is)
