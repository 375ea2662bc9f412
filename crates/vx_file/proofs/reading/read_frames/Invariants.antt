use Rattle.std.proofs.Common.{◌≡◌, ◌-◌}
use Rattle.vx_spelling.specs.FileSpelling.{framed_tree}
use Rattle.vx_codec.specs.Lists.{repeated_at}
use Rattle.vx_codec.proofs.Loops.{with_front}
use Rattle.vx_file.proofs.reading.read_frames.Given as goal

abbrev pub invariant-loop : goal.invariant-loop
invariant-loop l = with_front l.trees (repeated_at framed_tree.parse (l.count - l.counter) l.rest) ≡ repeated_at framed_tree.parse l.count l.bytes
