use Rattle.std.proofs.Common.{◌≡◌, ◌∙◌, ap}
use Rattle.vx_base.specs.PlainType as types
use Rattle.vx_base.specs.PlainType.{or_nullable, with_nullability}
use Rattle.vx_base.specs.TypeOf.{type_of}
use Rattle.vx_model.specs.Column.{column_of}
use Rattle.vx_model.specs.TreeType.{dict_type}
use Rattle.vx_values.specs.Codes.{validity_by_codes}
use Rattle.vx_values.specs.IntsOf.{ptype_of, wholes_of}
use Rattle.vx_selections.proofs.TakenColumns.{view_taken}
use Rattle.vx_selections.proofs.takes.stored.taken_view.Goals as goal

pub var_bin_view_of-requires : goal.var_bin_view_of-requires
var_bin_view_of-requires c =
    let wide : type_of c.in_ok-wide.wide ≡ dict_type (types.primitive (ptype_of c.args.codes.now) c.args.nulls) (type_of c.args.dtype.now) =
    c.in_ok-wide.ensures ∙ ap (with_nullability (type_of c.args.dtype.now)) (c.or.ensures ∙ ap (λ n. or_nullable n c.args.nulls) c.nullability.ensures) in
    (view_taken (ptype_of c.args.codes.now) (wholes_of c.args.codes.now) c.args.valid.now c.args.nulls c.requires.codes c.args.values.now c.args.own.now (type_of c.args.dtype.now) c.requires.well c.requires.places c.in_ok-picked.picked c.in_ok-bits.bits (type_of c.in_ok-wide.wide) c.in_ok-picked.ensures (c.in_ok-bits.ensures ∙ ap (λ v. validity_by_codes (ptype_of c.args.codes.now) (wholes_of c.args.codes.now) v c.args.own.now) c.in_ok-valid.ensures) wide).accepted

pub returns : goal.returns
returns c =
    let wide : type_of c.in_ok-wide.wide ≡ dict_type (types.primitive (ptype_of c.args.codes.now) c.args.nulls) (type_of c.args.dtype.now) =
    c.in_ok-wide.ensures ∙ ap (with_nullability (type_of c.args.dtype.now)) (c.or.ensures ∙ ap (λ n. or_nullable n c.args.nulls) c.nullability.ensures) in
    ap column_of c.var_bin_view_of.ensures ∙ (view_taken (ptype_of c.args.codes.now) (wholes_of c.args.codes.now) c.args.valid.now c.args.nulls c.requires.codes c.args.values.now c.args.own.now (type_of c.args.dtype.now) c.requires.well c.requires.places c.in_ok-picked.picked c.in_ok-bits.bits (type_of c.in_ok-wide.wide) c.in_ok-picked.ensures (c.in_ok-bits.ensures ∙ ap (λ v. validity_by_codes (ptype_of c.args.codes.now) (wholes_of c.args.codes.now) v c.args.own.now) c.in_ok-valid.ensures) wide).column
