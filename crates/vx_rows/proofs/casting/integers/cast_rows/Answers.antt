use Rattle.std.proofs.Common.{◌∙◌, map, sym}
use Rattle.vx_base.specs.PlainType as types
use Rattle.vx_base.specs.PlainValue.{int}
use Rattle.vx_model.specs.Rows.{valid_rows}
use Rattle.vx_values.specs.IntsOf.{wholes_of}
use Rattle.vx_rows.proofs.CastLemmas.{cast-answered, cast-refused}
use Rattle.vx_rows.proofs.casting.integers.cast_rows.Goals as goal

pub returns-then-not-are_held : goal.returns-then-not-are_held
returns-then-not-are_held c =
    cast-refused (types.primitive c.args.ptype c.args.nullability) (valid_rows c.args.valid.now (map int (wholes_of c.args.values.now))) (sym c.are_held.ensures ∙ c.if-not-are_held.true)

pub returns : goal.returns
returns c =
    cast-answered (types.primitive c.args.ptype c.args.nullability) (valid_rows c.args.valid.now (map int (wholes_of c.args.values.now))) c.held_rows.result (sym c.are_held.ensures ∙ c.if-not-are_held.false) c.held_rows.ensures
