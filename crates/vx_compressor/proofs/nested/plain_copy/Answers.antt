use Rattle.std.proofs.Common.{rules}
use Rattle.vx_model.specs.Plain.{IsPlain}
use Rattle.vx_compressor.proofs.OneValueTrees.{answers_along}
use Rattle.vx_compressor.proofs.nested.plain_copy.Goals as goal

pub returns-then-is_plain : goal.returns-then-is_plain
returns-then-is_plain c = let own : IsPlain c.args.array.now = search rules in answers_along c.copy.result _ _ own c.copy.ensures
