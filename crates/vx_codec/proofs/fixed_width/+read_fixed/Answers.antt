use Rattle.std.proofs.Common.{arith}
use Rattle.vx_codec.proofs.NumberLaws.{few_bytes, byte_more}
use Rattle.vx_codec.proofs.fixed_width.+read_fixed.Goals as goal

pub overflow_mul-result : goal.overflow_mul-result
overflow_mul-result t c = omega (arith, c.in_ok-high.ensures.small, byte_more c.args.width (omega arith), few_bytes c.args.width c.requires)

pub overflow_add-result : goal.overflow_add-result
overflow_add-result t c = omega (arith, c.in_ok-first.ensures.small, c.in_ok-high.ensures.small, byte_more c.args.width (omega arith), few_bytes c.args.width c.requires)
