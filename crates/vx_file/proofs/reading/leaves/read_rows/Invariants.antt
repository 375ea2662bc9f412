use Rattle.std.proofs.Common.{◌≡◌, ◌-◌}
use Rattle.vx_codec.specs.Lists.{delimited}
use Rattle.vx_codec.specs.Lists.{repeated_at}
use Rattle.vx_codec.proofs.Loops.{with_front}
use Rattle.vx_file.proofs.reading.leaves.read_rows.Given as goal

abbrev pub invariant-loop : goal.invariant-loop
invariant-loop l = with_front l.rows.items (repeated_at delimited.parse (l.count - l.counter) l.rest) ≡ repeated_at delimited.parse l.count l.bytes
