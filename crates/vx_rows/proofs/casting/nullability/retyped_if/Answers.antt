use Rattle.std.proofs.Common.{◌∙◌, sym}
use Rattle.vx_base.specs.TypeOf.{type_of}
use Rattle.vx_model.specs.Rows.{rows}
use Rattle.vx_rows.proofs.CastLemmas.{cast-answered, cast-refused}
use Rattle.vx_rows.proofs.casting.nullability.retyped_if.Goals as goal

pub retyped-requires : goal.retyped-requires
retyped-requires c = sym c.requires ∙ c.if-held.true

pub returns-then-held : goal.returns-then-held
returns-then-held c = cast-answered (type_of c.args.dtype.now) (rows c.args.array.now) c.retyped.result (sym c.requires ∙ c.if-held.true) c.retyped.ensures

pub returns-else-held : goal.returns-else-held
returns-else-held c = cast-refused (type_of c.args.dtype.now) (rows c.args.array.now) (sym c.requires ∙ c.if-held.false)
