use Rattle.std.proofs.Common.{◌≡◌, ◌-◌, map}
use Rattle.vx_spelling.specs.Fields.{integer}
use Rattle.vx_codec.specs.Lists.{repeated_at}
use Rattle.vx_codec.proofs.Loops.{with_front}
use Rattle.vx_file.proofs.reading.integers.read_items.Given as goal

abbrev pub invariant-loop : goal.invariant-loop
invariant-loop g l = with_front (map g.T.Integer.whole l.items.items) (repeated_at (integer g.T.Integer.kind).parse (l.count - l.counter) l.rest) ≡ repeated_at (integer g.T.Integer.kind).parse l.count l.bytes
