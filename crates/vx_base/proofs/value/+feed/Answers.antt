use Rattle.std.proofs.Common.{rules, ap, arith}
use Rattle.std.proofs.lemmas.Grind.{common_steps}
use Rattle.vx_base.proofs.WithinLemmas.{length-of_list}
use Rattle.vx_base.specs.TypeOf.{value_of}
use Rattle.vx_base.proofs.value.+feed.Goals as goal

pub Value::feed-returns-in-List : goal.Value::feed-returns-in-List
Value::feed-returns-in-List g t c = rw (ap value_of c.in-List.is, length-of_list) (first_of (search rules, grind (arith, common_steps)))
