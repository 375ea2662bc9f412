use Rattle.std.proofs.Common.{arith, length, ◌++◌}
use Rattle.vx_codec.specs.Bits.{bytes_for, bit_bytes}
use Rattle.vx_codec.proofs.Loops.{put_next}
use Rattle.vx_codec.proofs.bits.put_bits.Goals as goal

pub loop-preserved : goal.loop-preserved
loop-preserved c = record {
  left = omega arith;
  put = put_next c.loop.out.items (bytes_for (length c.args.all.now)) c.loop.counter c.loop.rest.now c.split_at.result.0.now c.split_at.result.1.now c.min.result c.put_byte.new.out.items (c.args.out.now.items ++ bit_bytes (bytes_for (length c.args.all.now)) c.args.all.now) c.bits_number.result
      (omega arith) c.min.ensures c.split_at.ensures.front c.split_at.ensures.back c.bits_number.ensures.is c.in_ok-put_byte.ensures c.loop.invariant.put;
}
