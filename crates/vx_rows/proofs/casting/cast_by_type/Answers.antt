use Rattle.std.proofs.Common.{◌∙◌, ap, subst, sym}
use Rattle.std.specs.Prelude.{◌&&◌}
use Rattle.std.proofs.lemmas.Bool.{and_parts}
use Rattle.vx_base.specs.PlainType.{is_integer}
use Rattle.vx_base.specs.PlainType as types
use Rattle.vx_base.specs.TypeOf.{type_of}
use Rattle.vx_model.specs.Rows.{rows}
use Rattle.vx_model.specs.TreeType.{tree_type}
use Rattle.vx_rows.specs.Casting.{IsCast}
use Rattle.vx_rows.proofs.CastLemmas.{base-cast, integer-type}
use Rattle.vx_rows.proofs.casting.cast_by_type.Goals as goal

pub returns-then-are_integers : goal.returns-then-are_integers
returns-then-are_integers c =
    let t = type_of c.args.dtype.now in
    let whole = (and_parts _ _ (sym c.are_integers.ensures ∙ c.if-are_integers.true)).1 in
    subst (λ u. IsCast u (rows c.args.array.now) c.cast_integers.result) ((λ i. types.primitive (c.ptype.ensures i) (c.nullability.ensures i)) ∙ integer-type t whole) c.cast_integers.ensures

pub cast_nullability-requires : goal.cast_nullability-requires
cast_nullability-requires c =
    let t = type_of c.args.dtype.now in
    base-cast (tree_type c.args.array.now) t c.requires (ap (λ s. is_integer s && is_integer t) (sym c.dtype.ensures) ∙ sym c.are_integers.ensures ∙ c.if-are_integers.false)
