use Rattle.std.proofs.Common.{◌≡◌, ◌∙◌, ap, length, sym}
use Rattle.std.specs.List.{list_all}
use Rattle.vx_model.specs.Column.{column_of}
use Rattle.vx_model.specs.Rows.{rows}
use Rattle.vx_model.specs.Tree.{primitive}
use Rattle.vx_model.specs.WellFormed.{is_place}
use Rattle.vx_rules.specs.Selections.{taken}
use Rattle.vx_values.specs.IntsOf.{ptype_of, wholes_of}
use Rattle.vx_selections.proofs.Deciding.{decided-made, decided-outside}
use Rattle.vx_selections.proofs.Validities.{own-length}
use Rattle.vx_selections.proofs.takes.taken.Goals as goal

pub are_places-requires : goal.are_places-requires
are_places-requires c = own-length c.args.valid.now (length (wholes_of c.args.codes.now)) c.args.nulls c.requires.0.validity

pub taken_rows-requires-clause-places : goal.taken_rows-requires-clause-places
taken_rows-requires-clause-places c =
    let rs = rows (primitive (ptype_of c.args.codes.now) (wholes_of c.args.codes.now) c.args.valid.now c.args.nulls) in
    ap (λ n. list_all (is_place n) rs) (sym c.len.ensures) ∙ sym c.are_places.ensures ∙ c.if-not-are_places.false

pub returns-then-not-are_places : goal.returns-then-not-are_places
returns-then-not-are_places c =
    let indices = column_of (primitive (ptype_of c.args.codes.now) (wholes_of c.args.codes.now) c.args.valid.now c.args.nulls) in
    let tree = column_of c.args.tree.now in
    let outside = ap (λ n. list_all (is_place n) indices.values) (sym c.len.ensures) ∙ sym c.are_places.ensures ∙ c.if-not-are_places.true in
    decided-outside (λ out. column_of out ≡ taken tree indices) (list_all (is_place (length tree.values)) indices.values) outside

pub returns : goal.returns
returns c =
    let indices = column_of (primitive (ptype_of c.args.codes.now) (wholes_of c.args.codes.now) c.args.valid.now c.args.nulls) in
    let tree = column_of c.args.tree.now in
    let inside = ap (λ n. list_all (is_place n) indices.values) (sym c.len.ensures) ∙ sym c.are_places.ensures ∙ c.if-not-are_places.false in
    decided-made (λ out. column_of out ≡ taken tree indices) (list_all (is_place (length tree.values)) indices.values) c.taken_rows.result inside c.taken_rows.ensures
