use Rattle.std.proofs.Common.{◌≡◌, ◌-◌, ◌*◌, ◌++◌, length}
use Rattle.vx_codec.specs.Bits.{bit_bytes, bytes_for}
use Rattle.vx_codec.proofs.bits.put_bits.Given as goal

abbrev pub invariant-loop : goal.invariant-loop
invariant-loop l = record {
  left : length l.rest ≡ length l.all - 8 * l.counter;
  put : l.out.items ++ bit_bytes (bytes_for (length l.all) - l.counter) l.rest ≡ l.fn.out.items ++ bit_bytes (bytes_for (length l.all)) l.all;
}
