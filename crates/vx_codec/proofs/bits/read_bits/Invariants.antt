use Rattle.std.proofs.Common.{◌≡◌, ◌-◌, ◌*◌}
use Rattle.vx_codec.specs.Bits.{bits_at, bytes_for}
use Rattle.vx_codec.proofs.Loops.{with_front}
use Rattle.vx_codec.proofs.bits.read_bits.Given as goal

abbrev pub invariant-loop : goal.invariant-loop
invariant-loop l = record {
  left : l.left ≡ l.count - 8 * l.counter;
  read : with_front l.found.items (bits_at (bytes_for l.count - l.counter) l.left l.rest) ≡ bits_at (bytes_for l.count) l.count l.bytes;
}
