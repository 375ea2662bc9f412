use Rattle.std.proofs.Common.{arith}
use Rattle.vx_base.specs.PlainType as types
use Rattle.vx_rows.proofs.CastLemmas.{cast-none}
use Rattle.vx_rows.proofs.casting.constants.cast_constant.Goals as goal

pub returns-then-len-eq0 : goal.returns-then-len-eq0
returns-then-len-eq0 c = cast-none (types.primitive c.args.ptype c.args.nullability) c.args.value.now.value c.args.len c.no_rows.result (omega arith) c.no_rows.ensures
